-- For `private_key::OneAsymmetricKey::at`: what it returns is right.
use Rattle.std.proofs.Common.{◌∙◌, ℕ, Option, sym}
use Rattle.asn1_blocks.specs.Tree.{Trees}
use Rattle.asn1_certificate.specs.Sequences.{Found, field, is_bits, is_leaf, no_more, optional}
use Rattle.asn1_certificate.specs.Types.{is_algorithm_identifier, tagged_attributes}
use Rattle.asn1_certificate.proofs.Steps.{end-none, end-some, from-none, through}
use Rattle.asn1_certificate.proofs.private_key.OneAsymmetricKey.at.Goals as goal

pub returns-in_err-fields : goal.returns-in_err-fields
returns-in_err-fields c ns held d h =
    let from_4 : Trees ℕ → Option Found = optional (is_bits 1) no_more in
    let from_3 : Trees ℕ → Option Found = optional (tagged_attributes held 0) from_4 in
    let from_2 : Trees ℕ → Option Found = field (is_leaf 4) from_3 in
    let from_1 : Trees ℕ → Option Found = field is_algorithm_identifier from_2 in
    from-none _ _ _ c.from_residual.ensures (c.in_err-fields.ensures ns d (field (is_leaf 2) from_1))

pub returns-in_err-version : goal.returns-in_err-version
returns-in_err-version c ns held d h =
    let from_4 : Trees ℕ → Option Found = optional (is_bits 1) no_more in
    let from_3 : Trees ℕ → Option Found = optional (tagged_attributes held 0) from_4 in
    let from_2 : Trees ℕ → Option Found = field (is_leaf 4) from_3 in
    let from_1 : Trees ℕ → Option Found = field is_algorithm_identifier from_2 in
    from-none _ _ _ c.from_residual-in_err-version.ensures (
    c.in_ok-fields.ensures ns d (field (is_leaf 2) from_1)
    ∙ c.in_err-version.ensures.field ns (is_leaf 2) from_1
    (c.begins_with_leaf-has_version.ensures ns d))

pub returns-in_err-private_key_algorithm : goal.returns-in_err-private_key_algorithm
returns-in_err-private_key_algorithm c ns held d h =
    let from_4 : Trees ℕ → Option Found = optional (is_bits 1) no_more in
    let from_3 : Trees ℕ → Option Found = optional (tagged_attributes held 0) from_4 in
    let from_2 : Trees ℕ → Option Found = field (is_leaf 4) from_3 in
    let from_1 : Trees ℕ → Option Found = field is_algorithm_identifier from_2 in
    from-none _ _ _ c.from_residual-in_err-private_key_algorithm.ensures (
    c.in_ok-fields.ensures ns d (field (is_leaf 2) from_1)
    ∙ through _ _ _ _
    (c.in_ok-version.ensures.field ns (is_leaf 2) from_1
    (c.begins_with_leaf-has_version.ensures ns d))
    (c.in_err-private_key_algorithm.ensures.field ns is_algorithm_identifier from_2
    (c.begins_with_algorithm-has_algorithm.ensures ns d)))

pub returns-in_err-private_key : goal.returns-in_err-private_key
returns-in_err-private_key c ns held d h =
    let from_4 : Trees ℕ → Option Found = optional (is_bits 1) no_more in
    let from_3 : Trees ℕ → Option Found = optional (tagged_attributes held 0) from_4 in
    let from_2 : Trees ℕ → Option Found = field (is_leaf 4) from_3 in
    let from_1 : Trees ℕ → Option Found = field is_algorithm_identifier from_2 in
    from-none _ _ _ c.from_residual-in_err-private_key.ensures (
    c.in_ok-fields.ensures ns d (field (is_leaf 2) from_1)
    ∙ through _ _ _ _
    (c.in_ok-version.ensures.field ns (is_leaf 2) from_1
    (c.begins_with_leaf-has_version.ensures ns d))
    (through _ _ _ _
    (c.in_ok-private_key_algorithm.ensures.field ns is_algorithm_identifier from_2
    (c.begins_with_algorithm-has_algorithm.ensures ns d))
    (c.in_err-private_key.ensures.field ns (is_leaf 4) from_3
    (c.begins_with_leaf-has_key.ensures ns d))))

pub returns-then-is_some : goal.returns-then-is_some
returns-then-is_some c ns held d h =
    let from_4 : Trees ℕ → Option Found = optional (is_bits 1) no_more in
    let from_3 : Trees ℕ → Option Found = optional (tagged_attributes held 0) from_4 in
    let from_2 : Trees ℕ → Option Found = field (is_leaf 4) from_3 in
    let from_1 : Trees ℕ → Option Found = field is_algorithm_identifier from_2 in
    c.in_ok-fields.ensures ns d (field (is_leaf 2) from_1)
    ∙ through _ _ _ _
    (c.in_ok-version.ensures.field ns (is_leaf 2) from_1
    (c.begins_with_leaf-has_version.ensures ns d))
    (through _ _ _ _
    (c.in_ok-private_key_algorithm.ensures.field ns is_algorithm_identifier from_2
    (c.begins_with_algorithm-has_algorithm.ensures ns d))
    (through _ _ _ _
    (c.in_ok-private_key.ensures.field ns (is_leaf 4) from_3
    (c.begins_with_leaf-has_key.ensures ns d))
    (through _ _ _ _
    (c.take_if-attributes.ensures.optional ns (tagged_attributes held 0) from_4
    (c.begins_with_attributes-has_attributes.ensures ns held d h))
    (through _ _ _ _
    (c.take_if-public_key.ensures.optional ns (is_bits 1) no_more
    (c.begins_with_bits-has_public.ensures ns d))
    (end-some ns _ (sym c.is_some.ensures ∙ c.if-is_some.true))))))

pub returns : goal.returns
returns c ns held d h =
    let from_4 : Trees ℕ → Option Found = optional (is_bits 1) no_more in
    let from_3 : Trees ℕ → Option Found = optional (tagged_attributes held 0) from_4 in
    let from_2 : Trees ℕ → Option Found = field (is_leaf 4) from_3 in
    let from_1 : Trees ℕ → Option Found = field is_algorithm_identifier from_2 in
    c.in_ok-fields.ensures ns d (field (is_leaf 2) from_1)
    ∙ through _ _ _ _
    (c.in_ok-version.ensures.field ns (is_leaf 2) from_1
    (c.begins_with_leaf-has_version.ensures ns d))
    (through _ _ _ _
    (c.in_ok-private_key_algorithm.ensures.field ns is_algorithm_identifier from_2
    (c.begins_with_algorithm-has_algorithm.ensures ns d))
    (through _ _ _ _
    (c.in_ok-private_key.ensures.field ns (is_leaf 4) from_3
    (c.begins_with_leaf-has_key.ensures ns d))
    (through _ _ _ _
    (c.take_if-attributes.ensures.optional ns (tagged_attributes held 0) from_4
    (c.begins_with_attributes-has_attributes.ensures ns held d h))
    (through _ _ _ _
    (c.take_if-public_key.ensures.optional ns (is_bits 1) no_more
    (c.begins_with_bits-has_public.ensures ns d))
    (end-none ns _ (sym c.is_some.ensures ∙ c.if-is_some.false))))))
