-- For `request::info_parts`: what it returns is right.
use Rattle.std.proofs.Common.{◌∙◌, ℕ, Option, ap, sym}
use Rattle.asn1_blocks.specs.Tree.{Trees}
use Rattle.asn1_certificate.specs.Sequences.{Found, field, is_found, is_leaf, no_more}
use Rattle.asn1_certificate.specs.Types.{is_name, is_subject_public_key_info, tagged_attributes}
use Rattle.asn1_certificate.proofs.Steps.{end-none, end-some, field-is, field-none, field-other, from-none, through}
use Rattle.asn1_certificate.proofs.request.info_parts.Goals as goal

pub returns-in_err-fields : goal.returns-in_err-fields
returns-in_err-fields c ns held d h =
    let from_3 : Trees ℕ → Option Found = field (tagged_attributes held 0) no_more in
    let from_2 : Trees ℕ → Option Found = field is_subject_public_key_info from_3 in
    let from_1 : Trees ℕ → Option Found = field is_name from_2 in
    from-none _ _ _ c.from_residual.ensures (c.in_err-fields.ensures ns d (field (is_leaf 2) from_1))

pub returns-in_err-version : goal.returns-in_err-version
returns-in_err-version c ns held d h =
    let from_3 : Trees ℕ → Option Found = field (tagged_attributes held 0) no_more in
    let from_2 : Trees ℕ → Option Found = field is_subject_public_key_info from_3 in
    let from_1 : Trees ℕ → Option Found = field is_name from_2 in
    from-none _ _ _ c.from_residual-in_err-version.ensures (
    c.in_ok-fields.ensures ns d (field (is_leaf 2) from_1)
    ∙ (c.in_err-version.ensures.field ns (is_leaf 2) from_1
    (c.begins_with_leaf-has_version.ensures ns d)))

pub returns-in_err-subject : goal.returns-in_err-subject
returns-in_err-subject c ns held d h =
    let from_3 : Trees ℕ → Option Found = field (tagged_attributes held 0) no_more in
    let from_2 : Trees ℕ → Option Found = field is_subject_public_key_info from_3 in
    let from_1 : Trees ℕ → Option Found = field is_name from_2 in
    from-none _ _ _ c.from_residual-in_err-subject.ensures (
    c.in_ok-fields.ensures ns d (field (is_leaf 2) from_1)
    ∙ through _ _ _ _
    (c.in_ok-version.ensures.field ns (is_leaf 2) from_1
    (c.begins_with_leaf-has_version.ensures ns d))
    (c.in_err-subject.ensures.field ns is_name from_2
    (c.begins_with_name-has_subject.ensures ns d)))

pub returns-in_err-subject_public_key_info : goal.returns-in_err-subject_public_key_info
returns-in_err-subject_public_key_info c ns held d h =
    let from_3 : Trees ℕ → Option Found = field (tagged_attributes held 0) no_more in
    let from_2 : Trees ℕ → Option Found = field is_subject_public_key_info from_3 in
    let from_1 : Trees ℕ → Option Found = field is_name from_2 in
    from-none _ _ _ c.from_residual-in_err-subject_public_key_info.ensures (
    c.in_ok-fields.ensures ns d (field (is_leaf 2) from_1)
    ∙ through _ _ _ _
    (c.in_ok-version.ensures.field ns (is_leaf 2) from_1
    (c.begins_with_leaf-has_version.ensures ns d))
    (through _ _ _ _
    (c.in_ok-subject.ensures.field ns is_name from_2
    (c.begins_with_name-has_subject.ensures ns d))
    (field-none ns is_subject_public_key_info from_3 _ c.in_err-subject_public_key_info.ensures.0)))

pub returns-in_err-key : goal.returns-in_err-key
returns-in_err-key c ns held d h =
    let from_3 : Trees ℕ → Option Found = field (tagged_attributes held 0) no_more in
    let from_2 : Trees ℕ → Option Found = field is_subject_public_key_info from_3 in
    let from_1 : Trees ℕ → Option Found = field is_name from_2 in
    from-none _ _ _ c.from_residual-in_err-key.ensures (
    c.in_ok-fields.ensures ns d (field (is_leaf 2) from_1)
    ∙ through _ _ _ _
    (c.in_ok-version.ensures.field ns (is_leaf 2) from_1
    (c.begins_with_leaf-has_version.ensures ns d))
    (through _ _ _ _
    (c.in_ok-subject.ensures.field ns is_name from_2
    (c.begins_with_name-has_subject.ensures ns d))
    (field-other ns is_subject_public_key_info from_3 _ _ _ c.in_ok-subject_public_key_info.ensures
    (ap is_found (c.in_err-key.ensures ns d)))))

pub returns-in_err-attributes : goal.returns-in_err-attributes
returns-in_err-attributes c ns held d h =
    let from_3 : Trees ℕ → Option Found = field (tagged_attributes held 0) no_more in
    let from_2 : Trees ℕ → Option Found = field is_subject_public_key_info from_3 in
    let from_1 : Trees ℕ → Option Found = field is_name from_2 in
    from-none _ _ _ c.from_residual-in_err-attributes.ensures (
    c.in_ok-fields.ensures ns d (field (is_leaf 2) from_1)
    ∙ through _ _ _ _
    (c.in_ok-version.ensures.field ns (is_leaf 2) from_1
    (c.begins_with_leaf-has_version.ensures ns d))
    (through _ _ _ _
    (c.in_ok-subject.ensures.field ns is_name from_2
    (c.begins_with_name-has_subject.ensures ns d))
    (through _ _ _ _
    (field-is ns is_subject_public_key_info from_3 _ _ _ c.in_ok-subject_public_key_info.ensures
    (ap is_found (c.in_ok-key.ensures ns d)))
    (c.in_err-attributes.ensures.field ns (tagged_attributes held 0) no_more
    (c.begins_with_attributes-has_attributes.ensures ns held d h)))))

pub returns-then-is_some : goal.returns-then-is_some
returns-then-is_some c ns held d h =
    let from_3 : Trees ℕ → Option Found = field (tagged_attributes held 0) no_more in
    let from_2 : Trees ℕ → Option Found = field is_subject_public_key_info from_3 in
    let from_1 : Trees ℕ → Option Found = field is_name from_2 in
    c.in_ok-fields.ensures ns d (field (is_leaf 2) from_1)
    ∙ through _ _ _ _
    (c.in_ok-version.ensures.field ns (is_leaf 2) from_1
    (c.begins_with_leaf-has_version.ensures ns d))
    (through _ _ _ _
    (c.in_ok-subject.ensures.field ns is_name from_2
    (c.begins_with_name-has_subject.ensures ns d))
    (through _ _ _ _
    (field-is ns is_subject_public_key_info from_3 _ _ _ c.in_ok-subject_public_key_info.ensures
    (ap is_found (c.in_ok-key.ensures ns d)))
    (through _ _ _ _
    (c.in_ok-attributes.ensures.field ns (tagged_attributes held 0) no_more
    (c.begins_with_attributes-has_attributes.ensures ns held d h))
    (end-some ns _ (sym c.is_some.ensures ∙ c.if-is_some.true)))))

pub returns : goal.returns
returns c ns held d h =
    let from_3 : Trees ℕ → Option Found = field (tagged_attributes held 0) no_more in
    let from_2 : Trees ℕ → Option Found = field is_subject_public_key_info from_3 in
    let from_1 : Trees ℕ → Option Found = field is_name from_2 in
    record {
      of_info =
          c.in_ok-fields.ensures ns d (field (is_leaf 2) from_1)
          ∙ through _ _ _ _
          (c.in_ok-version.ensures.field ns (is_leaf 2) from_1
          (c.begins_with_leaf-has_version.ensures ns d))
          (through _ _ _ _
          (c.in_ok-subject.ensures.field ns is_name from_2
          (c.begins_with_name-has_subject.ensures ns d))
          (through _ _ _ _
          (field-is ns is_subject_public_key_info from_3 _ _ _ c.in_ok-subject_public_key_info.ensures
          (ap is_found (c.in_ok-key.ensures ns d)))
          (through _ _ _ _
          (c.in_ok-attributes.ensures.field ns (tagged_attributes held 0) no_more
          (c.begins_with_attributes-has_attributes.ensures ns held d h))
          (end-none ns _ (sym c.is_some.ensures ∙ c.if-is_some.false)))));
      of_key = c.in_ok-key.ensures ns d;
    }
