-- For `certificate::signed_parts`: what it returns is right.
use Rattle.std.proofs.Common.{◌∙◌, ℕ, Option, ap, sym}
use Rattle.asn1_blocks.specs.Tree.{Trees}
use Rattle.asn1_certificate.specs.Sequences.{Found, field, is_bits, is_found, is_leaf, no_more, optional, tagged}
use Rattle.asn1_certificate.specs.Types.{is_algorithm_identifier, is_extensions, is_name, is_subject_public_key_info, is_validity}
use Rattle.asn1_certificate.proofs.Steps.{end-none, end-some, field-is, field-none, field-other, from-none, through}
use Rattle.asn1_certificate.proofs.certificate.signed_parts.Goals as goal

pub returns-in_err-fields : goal.returns-in_err-fields
returns-in_err-fields c ns d =
    let from_9 : Trees ℕ → Option Found = optional (tagged 3 is_extensions) no_more in
    let from_8 : Trees ℕ → Option Found = optional (is_bits 2) from_9 in
    let from_7 : Trees ℕ → Option Found = optional (is_bits 1) from_8 in
    let from_6 : Trees ℕ → Option Found = field is_subject_public_key_info from_7 in
    let from_5 : Trees ℕ → Option Found = field is_name from_6 in
    let from_4 : Trees ℕ → Option Found = field is_validity from_5 in
    let from_3 : Trees ℕ → Option Found = field is_name from_4 in
    let from_2 : Trees ℕ → Option Found = field is_algorithm_identifier from_3 in
    let from_1 : Trees ℕ → Option Found = field (is_leaf 2) from_2 in
    from-none _ _ _ c.from_residual.ensures (c.in_err-fields.ensures ns d (optional (tagged 0 (is_leaf 2)) from_1))

pub returns-in_err-serial_number : goal.returns-in_err-serial_number
returns-in_err-serial_number c ns d =
    let from_9 : Trees ℕ → Option Found = optional (tagged 3 is_extensions) no_more in
    let from_8 : Trees ℕ → Option Found = optional (is_bits 2) from_9 in
    let from_7 : Trees ℕ → Option Found = optional (is_bits 1) from_8 in
    let from_6 : Trees ℕ → Option Found = field is_subject_public_key_info from_7 in
    let from_5 : Trees ℕ → Option Found = field is_name from_6 in
    let from_4 : Trees ℕ → Option Found = field is_validity from_5 in
    let from_3 : Trees ℕ → Option Found = field is_name from_4 in
    let from_2 : Trees ℕ → Option Found = field is_algorithm_identifier from_3 in
    let from_1 : Trees ℕ → Option Found = field (is_leaf 2) from_2 in
    from-none _ _ _ c.from_residual-in_err-serial_number.ensures (
    c.in_ok-fields.ensures ns d (optional (tagged 0 (is_leaf 2)) from_1)
    ∙ through _ _ _ _
    (c.take_if-version.ensures.optional ns (tagged 0 (is_leaf 2)) from_1
    (c.begins_with_version-has_version.ensures ns d))
    (c.in_err-serial_number.ensures.field ns (is_leaf 2) from_2
    (c.begins_with_leaf-has_number.ensures ns d)))

pub returns-in_err-signature : goal.returns-in_err-signature
returns-in_err-signature c ns d =
    let from_9 : Trees ℕ → Option Found = optional (tagged 3 is_extensions) no_more in
    let from_8 : Trees ℕ → Option Found = optional (is_bits 2) from_9 in
    let from_7 : Trees ℕ → Option Found = optional (is_bits 1) from_8 in
    let from_6 : Trees ℕ → Option Found = field is_subject_public_key_info from_7 in
    let from_5 : Trees ℕ → Option Found = field is_name from_6 in
    let from_4 : Trees ℕ → Option Found = field is_validity from_5 in
    let from_3 : Trees ℕ → Option Found = field is_name from_4 in
    let from_2 : Trees ℕ → Option Found = field is_algorithm_identifier from_3 in
    let from_1 : Trees ℕ → Option Found = field (is_leaf 2) from_2 in
    from-none _ _ _ c.from_residual-in_err-signature.ensures (
    c.in_ok-fields.ensures ns d (optional (tagged 0 (is_leaf 2)) from_1)
    ∙ through _ _ _ _
    (c.take_if-version.ensures.optional ns (tagged 0 (is_leaf 2)) from_1
    (c.begins_with_version-has_version.ensures ns d))
    (through _ _ _ _
    (c.in_ok-serial_number.ensures.field ns (is_leaf 2) from_2
    (c.begins_with_leaf-has_number.ensures ns d))
    (c.in_err-signature.ensures.field ns is_algorithm_identifier from_3
    (c.begins_with_algorithm-has_signature.ensures ns d))))

pub returns-in_err-issuer : goal.returns-in_err-issuer
returns-in_err-issuer c ns d =
    let from_9 : Trees ℕ → Option Found = optional (tagged 3 is_extensions) no_more in
    let from_8 : Trees ℕ → Option Found = optional (is_bits 2) from_9 in
    let from_7 : Trees ℕ → Option Found = optional (is_bits 1) from_8 in
    let from_6 : Trees ℕ → Option Found = field is_subject_public_key_info from_7 in
    let from_5 : Trees ℕ → Option Found = field is_name from_6 in
    let from_4 : Trees ℕ → Option Found = field is_validity from_5 in
    let from_3 : Trees ℕ → Option Found = field is_name from_4 in
    let from_2 : Trees ℕ → Option Found = field is_algorithm_identifier from_3 in
    let from_1 : Trees ℕ → Option Found = field (is_leaf 2) from_2 in
    from-none _ _ _ c.from_residual-in_err-issuer.ensures (
    c.in_ok-fields.ensures ns d (optional (tagged 0 (is_leaf 2)) from_1)
    ∙ through _ _ _ _
    (c.take_if-version.ensures.optional ns (tagged 0 (is_leaf 2)) from_1
    (c.begins_with_version-has_version.ensures ns d))
    (through _ _ _ _
    (c.in_ok-serial_number.ensures.field ns (is_leaf 2) from_2
    (c.begins_with_leaf-has_number.ensures ns d))
    (through _ _ _ _
    (c.in_ok-signature.ensures.field ns is_algorithm_identifier from_3
    (c.begins_with_algorithm-has_signature.ensures ns d))
    (c.in_err-issuer.ensures.field ns is_name from_4
    (c.begins_with_name-has_issuer.ensures ns d)))))

pub returns-in_err-validity : goal.returns-in_err-validity
returns-in_err-validity c ns d =
    let from_9 : Trees ℕ → Option Found = optional (tagged 3 is_extensions) no_more in
    let from_8 : Trees ℕ → Option Found = optional (is_bits 2) from_9 in
    let from_7 : Trees ℕ → Option Found = optional (is_bits 1) from_8 in
    let from_6 : Trees ℕ → Option Found = field is_subject_public_key_info from_7 in
    let from_5 : Trees ℕ → Option Found = field is_name from_6 in
    let from_4 : Trees ℕ → Option Found = field is_validity from_5 in
    let from_3 : Trees ℕ → Option Found = field is_name from_4 in
    let from_2 : Trees ℕ → Option Found = field is_algorithm_identifier from_3 in
    let from_1 : Trees ℕ → Option Found = field (is_leaf 2) from_2 in
    from-none _ _ _ c.from_residual-in_err-validity.ensures (
    c.in_ok-fields.ensures ns d (optional (tagged 0 (is_leaf 2)) from_1)
    ∙ through _ _ _ _
    (c.take_if-version.ensures.optional ns (tagged 0 (is_leaf 2)) from_1
    (c.begins_with_version-has_version.ensures ns d))
    (through _ _ _ _
    (c.in_ok-serial_number.ensures.field ns (is_leaf 2) from_2
    (c.begins_with_leaf-has_number.ensures ns d))
    (through _ _ _ _
    (c.in_ok-signature.ensures.field ns is_algorithm_identifier from_3
    (c.begins_with_algorithm-has_signature.ensures ns d))
    (through _ _ _ _
    (c.in_ok-issuer.ensures.field ns is_name from_4
    (c.begins_with_name-has_issuer.ensures ns d))
    (field-none ns is_validity from_5 _ c.in_err-validity.ensures.0)))))

pub returns-in_err-moments : goal.returns-in_err-moments
returns-in_err-moments c ns d =
    let from_9 : Trees ℕ → Option Found = optional (tagged 3 is_extensions) no_more in
    let from_8 : Trees ℕ → Option Found = optional (is_bits 2) from_9 in
    let from_7 : Trees ℕ → Option Found = optional (is_bits 1) from_8 in
    let from_6 : Trees ℕ → Option Found = field is_subject_public_key_info from_7 in
    let from_5 : Trees ℕ → Option Found = field is_name from_6 in
    let from_4 : Trees ℕ → Option Found = field is_validity from_5 in
    let from_3 : Trees ℕ → Option Found = field is_name from_4 in
    let from_2 : Trees ℕ → Option Found = field is_algorithm_identifier from_3 in
    let from_1 : Trees ℕ → Option Found = field (is_leaf 2) from_2 in
    from-none _ _ _ c.from_residual-in_err-moments.ensures (
    c.in_ok-fields.ensures ns d (optional (tagged 0 (is_leaf 2)) from_1)
    ∙ through _ _ _ _
    (c.take_if-version.ensures.optional ns (tagged 0 (is_leaf 2)) from_1
    (c.begins_with_version-has_version.ensures ns d))
    (through _ _ _ _
    (c.in_ok-serial_number.ensures.field ns (is_leaf 2) from_2
    (c.begins_with_leaf-has_number.ensures ns d))
    (through _ _ _ _
    (c.in_ok-signature.ensures.field ns is_algorithm_identifier from_3
    (c.begins_with_algorithm-has_signature.ensures ns d))
    (through _ _ _ _
    (c.in_ok-issuer.ensures.field ns is_name from_4
    (c.begins_with_name-has_issuer.ensures ns d))
    (field-other ns is_validity from_5 _ _ _ c.in_ok-validity.ensures
    (ap is_found (c.in_err-moments.ensures ns d)))))))

pub returns-in_err-subject : goal.returns-in_err-subject
returns-in_err-subject c ns d =
    let from_9 : Trees ℕ → Option Found = optional (tagged 3 is_extensions) no_more in
    let from_8 : Trees ℕ → Option Found = optional (is_bits 2) from_9 in
    let from_7 : Trees ℕ → Option Found = optional (is_bits 1) from_8 in
    let from_6 : Trees ℕ → Option Found = field is_subject_public_key_info from_7 in
    let from_5 : Trees ℕ → Option Found = field is_name from_6 in
    let from_4 : Trees ℕ → Option Found = field is_validity from_5 in
    let from_3 : Trees ℕ → Option Found = field is_name from_4 in
    let from_2 : Trees ℕ → Option Found = field is_algorithm_identifier from_3 in
    let from_1 : Trees ℕ → Option Found = field (is_leaf 2) from_2 in
    from-none _ _ _ c.from_residual-in_err-subject.ensures (
    c.in_ok-fields.ensures ns d (optional (tagged 0 (is_leaf 2)) from_1)
    ∙ through _ _ _ _
    (c.take_if-version.ensures.optional ns (tagged 0 (is_leaf 2)) from_1
    (c.begins_with_version-has_version.ensures ns d))
    (through _ _ _ _
    (c.in_ok-serial_number.ensures.field ns (is_leaf 2) from_2
    (c.begins_with_leaf-has_number.ensures ns d))
    (through _ _ _ _
    (c.in_ok-signature.ensures.field ns is_algorithm_identifier from_3
    (c.begins_with_algorithm-has_signature.ensures ns d))
    (through _ _ _ _
    (c.in_ok-issuer.ensures.field ns is_name from_4
    (c.begins_with_name-has_issuer.ensures ns d))
    (through _ _ _ _
    (field-is ns is_validity from_5 _ _ _ c.in_ok-validity.ensures
    (ap is_found (c.in_ok-moments.ensures ns d)))
    (c.in_err-subject.ensures.field ns is_name from_6
    (c.begins_with_name-has_subject.ensures ns d)))))))

pub returns-in_err-subject_public_key_info : goal.returns-in_err-subject_public_key_info
returns-in_err-subject_public_key_info c ns d =
    let from_9 : Trees ℕ → Option Found = optional (tagged 3 is_extensions) no_more in
    let from_8 : Trees ℕ → Option Found = optional (is_bits 2) from_9 in
    let from_7 : Trees ℕ → Option Found = optional (is_bits 1) from_8 in
    let from_6 : Trees ℕ → Option Found = field is_subject_public_key_info from_7 in
    let from_5 : Trees ℕ → Option Found = field is_name from_6 in
    let from_4 : Trees ℕ → Option Found = field is_validity from_5 in
    let from_3 : Trees ℕ → Option Found = field is_name from_4 in
    let from_2 : Trees ℕ → Option Found = field is_algorithm_identifier from_3 in
    let from_1 : Trees ℕ → Option Found = field (is_leaf 2) from_2 in
    from-none _ _ _ c.from_residual-in_err-subject_public_key_info.ensures (
    c.in_ok-fields.ensures ns d (optional (tagged 0 (is_leaf 2)) from_1)
    ∙ through _ _ _ _
    (c.take_if-version.ensures.optional ns (tagged 0 (is_leaf 2)) from_1
    (c.begins_with_version-has_version.ensures ns d))
    (through _ _ _ _
    (c.in_ok-serial_number.ensures.field ns (is_leaf 2) from_2
    (c.begins_with_leaf-has_number.ensures ns d))
    (through _ _ _ _
    (c.in_ok-signature.ensures.field ns is_algorithm_identifier from_3
    (c.begins_with_algorithm-has_signature.ensures ns d))
    (through _ _ _ _
    (c.in_ok-issuer.ensures.field ns is_name from_4
    (c.begins_with_name-has_issuer.ensures ns d))
    (through _ _ _ _
    (field-is ns is_validity from_5 _ _ _ c.in_ok-validity.ensures
    (ap is_found (c.in_ok-moments.ensures ns d)))
    (through _ _ _ _
    (c.in_ok-subject.ensures.field ns is_name from_6
    (c.begins_with_name-has_subject.ensures ns d))
    (field-none ns is_subject_public_key_info from_7 _ c.in_err-subject_public_key_info.ensures.0)))))))

pub returns-in_err-key : goal.returns-in_err-key
returns-in_err-key c ns d =
    let from_9 : Trees ℕ → Option Found = optional (tagged 3 is_extensions) no_more in
    let from_8 : Trees ℕ → Option Found = optional (is_bits 2) from_9 in
    let from_7 : Trees ℕ → Option Found = optional (is_bits 1) from_8 in
    let from_6 : Trees ℕ → Option Found = field is_subject_public_key_info from_7 in
    let from_5 : Trees ℕ → Option Found = field is_name from_6 in
    let from_4 : Trees ℕ → Option Found = field is_validity from_5 in
    let from_3 : Trees ℕ → Option Found = field is_name from_4 in
    let from_2 : Trees ℕ → Option Found = field is_algorithm_identifier from_3 in
    let from_1 : Trees ℕ → Option Found = field (is_leaf 2) from_2 in
    from-none _ _ _ c.from_residual-in_err-key.ensures (
    c.in_ok-fields.ensures ns d (optional (tagged 0 (is_leaf 2)) from_1)
    ∙ through _ _ _ _
    (c.take_if-version.ensures.optional ns (tagged 0 (is_leaf 2)) from_1
    (c.begins_with_version-has_version.ensures ns d))
    (through _ _ _ _
    (c.in_ok-serial_number.ensures.field ns (is_leaf 2) from_2
    (c.begins_with_leaf-has_number.ensures ns d))
    (through _ _ _ _
    (c.in_ok-signature.ensures.field ns is_algorithm_identifier from_3
    (c.begins_with_algorithm-has_signature.ensures ns d))
    (through _ _ _ _
    (c.in_ok-issuer.ensures.field ns is_name from_4
    (c.begins_with_name-has_issuer.ensures ns d))
    (through _ _ _ _
    (field-is ns is_validity from_5 _ _ _ c.in_ok-validity.ensures
    (ap is_found (c.in_ok-moments.ensures ns d)))
    (through _ _ _ _
    (c.in_ok-subject.ensures.field ns is_name from_6
    (c.begins_with_name-has_subject.ensures ns d))
    (field-other ns is_subject_public_key_info from_7 _ _ _ c.in_ok-subject_public_key_info.ensures
    (ap is_found (c.in_err-key.ensures ns d)))))))))

pub returns-then-is_some : goal.returns-then-is_some
returns-then-is_some c ns d =
    let from_9 : Trees ℕ → Option Found = optional (tagged 3 is_extensions) no_more in
    let from_8 : Trees ℕ → Option Found = optional (is_bits 2) from_9 in
    let from_7 : Trees ℕ → Option Found = optional (is_bits 1) from_8 in
    let from_6 : Trees ℕ → Option Found = field is_subject_public_key_info from_7 in
    let from_5 : Trees ℕ → Option Found = field is_name from_6 in
    let from_4 : Trees ℕ → Option Found = field is_validity from_5 in
    let from_3 : Trees ℕ → Option Found = field is_name from_4 in
    let from_2 : Trees ℕ → Option Found = field is_algorithm_identifier from_3 in
    let from_1 : Trees ℕ → Option Found = field (is_leaf 2) from_2 in
    c.in_ok-fields.ensures ns d (optional (tagged 0 (is_leaf 2)) from_1)
    ∙ through _ _ _ _
    (c.take_if-version.ensures.optional ns (tagged 0 (is_leaf 2)) from_1
    (c.begins_with_version-has_version.ensures ns d))
    (through _ _ _ _
    (c.in_ok-serial_number.ensures.field ns (is_leaf 2) from_2
    (c.begins_with_leaf-has_number.ensures ns d))
    (through _ _ _ _
    (c.in_ok-signature.ensures.field ns is_algorithm_identifier from_3
    (c.begins_with_algorithm-has_signature.ensures ns d))
    (through _ _ _ _
    (c.in_ok-issuer.ensures.field ns is_name from_4
    (c.begins_with_name-has_issuer.ensures ns d))
    (through _ _ _ _
    (field-is ns is_validity from_5 _ _ _ c.in_ok-validity.ensures
    (ap is_found (c.in_ok-moments.ensures ns d)))
    (through _ _ _ _
    (c.in_ok-subject.ensures.field ns is_name from_6
    (c.begins_with_name-has_subject.ensures ns d))
    (through _ _ _ _
    (field-is ns is_subject_public_key_info from_7 _ _ _ c.in_ok-subject_public_key_info.ensures
    (ap is_found (c.in_ok-key.ensures ns d)))
    (through _ _ _ _
    (c.take_if-issuer_unique_id.ensures.optional ns (is_bits 1) from_8
    (c.begins_with_bits-has_issuer_id.ensures ns d))
    (through _ _ _ _
    (c.take_if-subject_unique_id.ensures.optional ns (is_bits 2) from_9
    (c.begins_with_bits-has_subject_id.ensures ns d))
    (through _ _ _ _
    (c.take_if-extensions.ensures.optional ns (tagged 3 is_extensions) no_more
    (c.begins_with_tagged-has_extensions.ensures ns d))
    (end-some ns _ (sym c.is_some.ensures ∙ c.if-is_some.true)))))))))))

pub returns : goal.returns
returns c ns d =
    let from_9 : Trees ℕ → Option Found = optional (tagged 3 is_extensions) no_more in
    let from_8 : Trees ℕ → Option Found = optional (is_bits 2) from_9 in
    let from_7 : Trees ℕ → Option Found = optional (is_bits 1) from_8 in
    let from_6 : Trees ℕ → Option Found = field is_subject_public_key_info from_7 in
    let from_5 : Trees ℕ → Option Found = field is_name from_6 in
    let from_4 : Trees ℕ → Option Found = field is_validity from_5 in
    let from_3 : Trees ℕ → Option Found = field is_name from_4 in
    let from_2 : Trees ℕ → Option Found = field is_algorithm_identifier from_3 in
    let from_1 : Trees ℕ → Option Found = field (is_leaf 2) from_2 in
    record {
      of_tbs_certificate =
          c.in_ok-fields.ensures ns d (optional (tagged 0 (is_leaf 2)) from_1)
          ∙ through _ _ _ _
          (c.take_if-version.ensures.optional ns (tagged 0 (is_leaf 2)) from_1
          (c.begins_with_version-has_version.ensures ns d))
          (through _ _ _ _
          (c.in_ok-serial_number.ensures.field ns (is_leaf 2) from_2
          (c.begins_with_leaf-has_number.ensures ns d))
          (through _ _ _ _
          (c.in_ok-signature.ensures.field ns is_algorithm_identifier from_3
          (c.begins_with_algorithm-has_signature.ensures ns d))
          (through _ _ _ _
          (c.in_ok-issuer.ensures.field ns is_name from_4
          (c.begins_with_name-has_issuer.ensures ns d))
          (through _ _ _ _
          (field-is ns is_validity from_5 _ _ _ c.in_ok-validity.ensures
          (ap is_found (c.in_ok-moments.ensures ns d)))
          (through _ _ _ _
          (c.in_ok-subject.ensures.field ns is_name from_6
          (c.begins_with_name-has_subject.ensures ns d))
          (through _ _ _ _
          (field-is ns is_subject_public_key_info from_7 _ _ _ c.in_ok-subject_public_key_info.ensures
          (ap is_found (c.in_ok-key.ensures ns d)))
          (through _ _ _ _
          (c.take_if-issuer_unique_id.ensures.optional ns (is_bits 1) from_8
          (c.begins_with_bits-has_issuer_id.ensures ns d))
          (through _ _ _ _
          (c.take_if-subject_unique_id.ensures.optional ns (is_bits 2) from_9
          (c.begins_with_bits-has_subject_id.ensures ns d))
          (through _ _ _ _
          (c.take_if-extensions.ensures.optional ns (tagged 3 is_extensions) no_more
          (c.begins_with_tagged-has_extensions.ensures ns d))
          (end-none ns _ (sym c.is_some.ensures ∙ c.if-is_some.false)))))))))));
      of_validity = c.in_ok-moments.ensures ns d;
      of_key = c.in_ok-key.ensures ns d;
    }
