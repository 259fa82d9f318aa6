-- For `revocation::RevokedCertificate::at`: what it returns is right.
use Rattle.std.proofs.Common.{◌∙◌, ℕ, Option, sym}
use Rattle.asn1_blocks.specs.Tree.{Trees}
use Rattle.asn1_certificate.specs.Sequences.{Found, field, is_leaf, no_more, optional}
use Rattle.asn1_certificate.specs.Types.{is_extensions, is_time}
use Rattle.asn1_certificate.proofs.Steps.{end-none, end-some, from-none, through}
use Rattle.asn1_certificate.proofs.revocation.RevokedCertificate.at.Goals as goal

pub returns-in_err-fields : goal.returns-in_err-fields
returns-in_err-fields c ns d =
    let from_2 : Trees ℕ → Option Found = optional is_extensions no_more in
    let from_1 : Trees ℕ → Option Found = field is_time from_2 in
    from-none _ _ _ c.from_residual.ensures (c.in_err-fields.ensures ns d (field (is_leaf 2) from_1))

pub returns-in_err-user_certificate : goal.returns-in_err-user_certificate
returns-in_err-user_certificate c ns d =
    let from_2 : Trees ℕ → Option Found = optional is_extensions no_more in
    let from_1 : Trees ℕ → Option Found = field is_time from_2 in
    from-none _ _ _ c.from_residual-in_err-user_certificate.ensures (
    c.in_ok-fields.ensures ns d (field (is_leaf 2) from_1)
    ∙ c.in_err-user_certificate.ensures.field ns (is_leaf 2) from_1
    (c.begins_with_leaf-has_number.ensures ns d))

pub returns-in_err-revocation_date : goal.returns-in_err-revocation_date
returns-in_err-revocation_date c ns d =
    let from_2 : Trees ℕ → Option Found = optional is_extensions no_more in
    let from_1 : Trees ℕ → Option Found = field is_time from_2 in
    from-none _ _ _ c.from_residual-in_err-revocation_date.ensures (
    c.in_ok-fields.ensures ns d (field (is_leaf 2) from_1)
    ∙ through _ _ _ _
    (c.in_ok-user_certificate.ensures.field ns (is_leaf 2) from_1
    (c.begins_with_leaf-has_number.ensures ns d))
    (c.in_err-revocation_date.ensures.field ns is_time from_2
    (c.begins_with_time-has_date.ensures ns d)))

pub returns-then-is_some : goal.returns-then-is_some
returns-then-is_some c ns d =
    let from_2 : Trees ℕ → Option Found = optional is_extensions no_more in
    let from_1 : Trees ℕ → Option Found = field is_time from_2 in
    c.in_ok-fields.ensures ns d (field (is_leaf 2) from_1)
    ∙ through _ _ _ _
    (c.in_ok-user_certificate.ensures.field ns (is_leaf 2) from_1
    (c.begins_with_leaf-has_number.ensures ns d))
    (through _ _ _ _
    (c.in_ok-revocation_date.ensures.field ns is_time from_2
    (c.begins_with_time-has_date.ensures ns d))
    (through _ _ _ _
    (c.take_if-crl_entry_extensions.ensures.optional ns is_extensions no_more
    (c.begins_with_extensions-has_extensions.ensures ns d))
    (end-some ns _ (sym c.is_some.ensures ∙ c.if-is_some.true))))

pub returns : goal.returns
returns c ns d =
    let from_2 : Trees ℕ → Option Found = optional is_extensions no_more in
    let from_1 : Trees ℕ → Option Found = field is_time from_2 in
    c.in_ok-fields.ensures ns d (field (is_leaf 2) from_1)
    ∙ through _ _ _ _
    (c.in_ok-user_certificate.ensures.field ns (is_leaf 2) from_1
    (c.begins_with_leaf-has_number.ensures ns d))
    (through _ _ _ _
    (c.in_ok-revocation_date.ensures.field ns is_time from_2
    (c.begins_with_time-has_date.ensures ns d))
    (through _ _ _ _
    (c.take_if-crl_entry_extensions.ensures.optional ns is_extensions no_more
    (c.begins_with_extensions-has_extensions.ensures ns d))
    (end-none ns _ (sym c.is_some.ensures ∙ c.if-is_some.false))))
