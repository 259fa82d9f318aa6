-- For `revocation::TBSCertList::at`: what it returns is right.
use Rattle.std.proofs.Common.{◌∙◌, ℕ, Option, sym}
use Rattle.asn1_blocks.specs.Tree.{Trees}
use Rattle.asn1_certificate.specs.Sequences.{Found, field, is_leaf, no_more, optional, sequence_of, tagged}
use Rattle.asn1_certificate.specs.Types.{is_algorithm_identifier, is_extensions, is_name, is_revoked_certificate, is_time}
use Rattle.asn1_certificate.proofs.Steps.{end-none, end-some, from-none, through}
use Rattle.asn1_certificate.proofs.revocation.TBSCertList.at.Goals as goal

pub returns-in_err-fields : goal.returns-in_err-fields
returns-in_err-fields c ns d =
    let from_6 : Trees ℕ → Option Found = optional (tagged 0 is_extensions) no_more in
    let from_5 : Trees ℕ → Option Found = optional (sequence_of is_revoked_certificate) from_6 in
    let from_4 : Trees ℕ → Option Found = optional is_time from_5 in
    let from_3 : Trees ℕ → Option Found = field is_time from_4 in
    let from_2 : Trees ℕ → Option Found = field is_name from_3 in
    let from_1 : Trees ℕ → Option Found = field is_algorithm_identifier from_2 in
    from-none _ _ _ c.from_residual.ensures (c.in_err-fields.ensures ns d (optional (is_leaf 2) from_1))

pub returns-in_err-signature : goal.returns-in_err-signature
returns-in_err-signature c ns d =
    let from_6 : Trees ℕ → Option Found = optional (tagged 0 is_extensions) no_more in
    let from_5 : Trees ℕ → Option Found = optional (sequence_of is_revoked_certificate) from_6 in
    let from_4 : Trees ℕ → Option Found = optional is_time from_5 in
    let from_3 : Trees ℕ → Option Found = field is_time from_4 in
    let from_2 : Trees ℕ → Option Found = field is_name from_3 in
    let from_1 : Trees ℕ → Option Found = field is_algorithm_identifier from_2 in
    from-none _ _ _ c.from_residual-in_err-signature.ensures (
    c.in_ok-fields.ensures ns d (optional (is_leaf 2) from_1)
    ∙ through _ _ _ _
    (c.take_if-version.ensures.optional ns (is_leaf 2) from_1
    (c.begins_with_leaf-has_version.ensures ns d))
    (c.in_err-signature.ensures.field ns is_algorithm_identifier from_2
    (c.begins_with_algorithm-has_signature.ensures ns d)))

pub returns-in_err-issuer : goal.returns-in_err-issuer
returns-in_err-issuer c ns d =
    let from_6 : Trees ℕ → Option Found = optional (tagged 0 is_extensions) no_more in
    let from_5 : Trees ℕ → Option Found = optional (sequence_of is_revoked_certificate) from_6 in
    let from_4 : Trees ℕ → Option Found = optional is_time from_5 in
    let from_3 : Trees ℕ → Option Found = field is_time from_4 in
    let from_2 : Trees ℕ → Option Found = field is_name from_3 in
    let from_1 : Trees ℕ → Option Found = field is_algorithm_identifier from_2 in
    from-none _ _ _ c.from_residual-in_err-issuer.ensures (
    c.in_ok-fields.ensures ns d (optional (is_leaf 2) from_1)
    ∙ through _ _ _ _
    (c.take_if-version.ensures.optional ns (is_leaf 2) from_1
    (c.begins_with_leaf-has_version.ensures ns d))
    (through _ _ _ _
    (c.in_ok-signature.ensures.field ns is_algorithm_identifier from_2
    (c.begins_with_algorithm-has_signature.ensures ns d))
    (c.in_err-issuer.ensures.field ns is_name from_3
    (c.begins_with_name-has_issuer.ensures ns d))))

pub returns-in_err-this_update : goal.returns-in_err-this_update
returns-in_err-this_update c ns d =
    let from_6 : Trees ℕ → Option Found = optional (tagged 0 is_extensions) no_more in
    let from_5 : Trees ℕ → Option Found = optional (sequence_of is_revoked_certificate) from_6 in
    let from_4 : Trees ℕ → Option Found = optional is_time from_5 in
    let from_3 : Trees ℕ → Option Found = field is_time from_4 in
    let from_2 : Trees ℕ → Option Found = field is_name from_3 in
    let from_1 : Trees ℕ → Option Found = field is_algorithm_identifier from_2 in
    from-none _ _ _ c.from_residual-in_err-this_update.ensures (
    c.in_ok-fields.ensures ns d (optional (is_leaf 2) from_1)
    ∙ through _ _ _ _
    (c.take_if-version.ensures.optional ns (is_leaf 2) from_1
    (c.begins_with_leaf-has_version.ensures ns d))
    (through _ _ _ _
    (c.in_ok-signature.ensures.field ns is_algorithm_identifier from_2
    (c.begins_with_algorithm-has_signature.ensures ns d))
    (through _ _ _ _
    (c.in_ok-issuer.ensures.field ns is_name from_3
    (c.begins_with_name-has_issuer.ensures ns d))
    (c.in_err-this_update.ensures.field ns is_time from_4
    (c.begins_with_time-has_update.ensures ns d)))))

pub returns-then-is_some : goal.returns-then-is_some
returns-then-is_some c ns d =
    let from_6 : Trees ℕ → Option Found = optional (tagged 0 is_extensions) no_more in
    let from_5 : Trees ℕ → Option Found = optional (sequence_of is_revoked_certificate) from_6 in
    let from_4 : Trees ℕ → Option Found = optional is_time from_5 in
    let from_3 : Trees ℕ → Option Found = field is_time from_4 in
    let from_2 : Trees ℕ → Option Found = field is_name from_3 in
    let from_1 : Trees ℕ → Option Found = field is_algorithm_identifier from_2 in
    c.in_ok-fields.ensures ns d (optional (is_leaf 2) from_1)
    ∙ through _ _ _ _
    (c.take_if-version.ensures.optional ns (is_leaf 2) from_1
    (c.begins_with_leaf-has_version.ensures ns d))
    (through _ _ _ _
    (c.in_ok-signature.ensures.field ns is_algorithm_identifier from_2
    (c.begins_with_algorithm-has_signature.ensures ns d))
    (through _ _ _ _
    (c.in_ok-issuer.ensures.field ns is_name from_3
    (c.begins_with_name-has_issuer.ensures ns d))
    (through _ _ _ _
    (c.in_ok-this_update.ensures.field ns is_time from_4
    (c.begins_with_time-has_update.ensures ns d))
    (through _ _ _ _
    (c.take_if-next_update.ensures.optional ns is_time from_5
    (c.begins_with_time-has_next.ensures ns d))
    (through _ _ _ _
    (c.take_if-revoked_certificates.ensures.optional ns (sequence_of is_revoked_certificate) from_6
    (c.begins_with_revoked-has_revoked.ensures ns d))
    (through _ _ _ _
    (c.take_if-crl_extensions.ensures.optional ns (tagged 0 is_extensions) no_more
    (c.begins_with_tagged-has_extensions.ensures ns d))
    (end-some ns _ (sym c.is_some.ensures ∙ c.if-is_some.true))))))))

pub returns : goal.returns
returns c ns d =
    let from_6 : Trees ℕ → Option Found = optional (tagged 0 is_extensions) no_more in
    let from_5 : Trees ℕ → Option Found = optional (sequence_of is_revoked_certificate) from_6 in
    let from_4 : Trees ℕ → Option Found = optional is_time from_5 in
    let from_3 : Trees ℕ → Option Found = field is_time from_4 in
    let from_2 : Trees ℕ → Option Found = field is_name from_3 in
    let from_1 : Trees ℕ → Option Found = field is_algorithm_identifier from_2 in
    c.in_ok-fields.ensures ns d (optional (is_leaf 2) from_1)
    ∙ through _ _ _ _
    (c.take_if-version.ensures.optional ns (is_leaf 2) from_1
    (c.begins_with_leaf-has_version.ensures ns d))
    (through _ _ _ _
    (c.in_ok-signature.ensures.field ns is_algorithm_identifier from_2
    (c.begins_with_algorithm-has_signature.ensures ns d))
    (through _ _ _ _
    (c.in_ok-issuer.ensures.field ns is_name from_3
    (c.begins_with_name-has_issuer.ensures ns d))
    (through _ _ _ _
    (c.in_ok-this_update.ensures.field ns is_time from_4
    (c.begins_with_time-has_update.ensures ns d))
    (through _ _ _ _
    (c.take_if-next_update.ensures.optional ns is_time from_5
    (c.begins_with_time-has_next.ensures ns d))
    (through _ _ _ _
    (c.take_if-revoked_certificates.ensures.optional ns (sequence_of is_revoked_certificate) from_6
    (c.begins_with_revoked-has_revoked.ensures ns d))
    (through _ _ _ _
    (c.take_if-crl_extensions.ensures.optional ns (tagged 0 is_extensions) no_more
    (c.begins_with_tagged-has_extensions.ensures ns d))
    (end-none ns _ (sym c.is_some.ensures ∙ c.if-is_some.false))))))))
