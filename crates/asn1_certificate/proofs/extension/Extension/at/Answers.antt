-- For `extension::Extension::at`: what it returns is right.
use Rattle.std.proofs.Common.{◌∙◌, ℕ, Option, sym}
use Rattle.asn1_blocks.specs.Tree.{Trees}
use Rattle.asn1_certificate.specs.Sequences.{Found, field, is_leaf, no_more, optional}
use Rattle.asn1_certificate.proofs.Steps.{end-none, end-some, from-none, through}
use Rattle.asn1_certificate.proofs.extension.Extension.at.Goals as goal

pub returns-in_err-fields : goal.returns-in_err-fields
returns-in_err-fields c ns d =
    let from_2 : Trees ℕ → Option Found = field (is_leaf 4) no_more in
    let from_1 : Trees ℕ → Option Found = optional (is_leaf 1) from_2 in
    from-none _ _ _ c.from_residual.ensures (c.in_err-fields.ensures ns d (field (is_leaf 6) from_1))

pub returns-in_err-extn_id : goal.returns-in_err-extn_id
returns-in_err-extn_id c ns d =
    let from_2 : Trees ℕ → Option Found = field (is_leaf 4) no_more in
    let from_1 : Trees ℕ → Option Found = optional (is_leaf 1) from_2 in
    from-none _ _ _ c.from_residual-in_err-extn_id.ensures (
    c.in_ok-fields.ensures ns d (field (is_leaf 6) from_1)
    ∙ c.in_err-extn_id.ensures.field ns (is_leaf 6) from_1
    (c.begins_with_leaf-has_identifier.ensures ns d))

pub returns-in_err-extn_value : goal.returns-in_err-extn_value
returns-in_err-extn_value c ns d =
    let from_2 : Trees ℕ → Option Found = field (is_leaf 4) no_more in
    let from_1 : Trees ℕ → Option Found = optional (is_leaf 1) from_2 in
    from-none _ _ _ c.from_residual-in_err-extn_value.ensures (
    c.in_ok-fields.ensures ns d (field (is_leaf 6) from_1)
    ∙ through _ _ _ _
    (c.in_ok-extn_id.ensures.field ns (is_leaf 6) from_1
    (c.begins_with_leaf-has_identifier.ensures ns d))
    (through _ _ _ _
    (c.take_if-critical.ensures.optional ns (is_leaf 1) from_2
    (c.begins_with_leaf-has_critical.ensures ns d))
    (c.in_err-extn_value.ensures.field ns (is_leaf 4) no_more
    (c.begins_with_leaf-has_value.ensures ns d))))

pub returns-then-is_some : goal.returns-then-is_some
returns-then-is_some c ns d =
    let from_2 : Trees ℕ → Option Found = field (is_leaf 4) no_more in
    let from_1 : Trees ℕ → Option Found = optional (is_leaf 1) from_2 in
    c.in_ok-fields.ensures ns d (field (is_leaf 6) from_1)
    ∙ through _ _ _ _
    (c.in_ok-extn_id.ensures.field ns (is_leaf 6) from_1
    (c.begins_with_leaf-has_identifier.ensures ns d))
    (through _ _ _ _
    (c.take_if-critical.ensures.optional ns (is_leaf 1) from_2
    (c.begins_with_leaf-has_critical.ensures ns d))
    (through _ _ _ _
    (c.in_ok-extn_value.ensures.field ns (is_leaf 4) no_more
    (c.begins_with_leaf-has_value.ensures ns d))
    (end-some ns _ (sym c.is_some.ensures ∙ c.if-is_some.true))))

pub returns : goal.returns
returns c ns d =
    let from_2 : Trees ℕ → Option Found = field (is_leaf 4) no_more in
    let from_1 : Trees ℕ → Option Found = optional (is_leaf 1) from_2 in
    c.in_ok-fields.ensures ns d (field (is_leaf 6) from_1)
    ∙ through _ _ _ _
    (c.in_ok-extn_id.ensures.field ns (is_leaf 6) from_1
    (c.begins_with_leaf-has_identifier.ensures ns d))
    (through _ _ _ _
    (c.take_if-critical.ensures.optional ns (is_leaf 1) from_2
    (c.begins_with_leaf-has_critical.ensures ns d))
    (through _ _ _ _
    (c.in_ok-extn_value.ensures.field ns (is_leaf 4) no_more
    (c.begins_with_leaf-has_value.ensures ns d))
    (end-none ns _ (sym c.is_some.ensures ∙ c.if-is_some.false))))
