-- For `attribute::Attribute::at`: what it returns is right.
use Rattle.std.proofs.Common.{◌∙◌, ℕ, Option, sym}
use Rattle.asn1_blocks.specs.Tree.{Trees}
use Rattle.asn1_certificate.specs.Sequences.{Found, field, is_leaf, no_more, set_of_some}
use Rattle.asn1_certificate.specs.Types.{is_any}
use Rattle.asn1_certificate.proofs.Steps.{end-none, end-some, from-none, through}
use Rattle.asn1_certificate.proofs.attribute.Attribute.at.Goals as goal

pub returns-in_err-fields : goal.returns-in_err-fields
returns-in_err-fields c ns d =
    let from_1 : Trees ℕ → Option Found = field (set_of_some is_any) no_more in
    from-none _ _ _ c.from_residual.ensures (c.in_err-fields.ensures ns d (field (is_leaf 6) from_1))

pub returns-in_err-attribute_type : goal.returns-in_err-attribute_type
returns-in_err-attribute_type c ns d =
    let from_1 : Trees ℕ → Option Found = field (set_of_some is_any) no_more in
    from-none _ _ _ c.from_residual-in_err-attribute_type.ensures (
    c.in_ok-fields.ensures ns d (field (is_leaf 6) from_1)
    ∙ c.in_err-attribute_type.ensures.field ns (is_leaf 6) from_1
    (c.begins_with_leaf-has_type.ensures ns d))

pub returns-in_err-values : goal.returns-in_err-values
returns-in_err-values c ns d =
    let from_1 : Trees ℕ → Option Found = field (set_of_some is_any) no_more in
    from-none _ _ _ c.from_residual-in_err-values.ensures (
    c.in_ok-fields.ensures ns d (field (is_leaf 6) from_1)
    ∙ through _ _ _ _
    (c.in_ok-attribute_type.ensures.field ns (is_leaf 6) from_1
    (c.begins_with_leaf-has_type.ensures ns d))
    (c.in_err-values.ensures.field ns (set_of_some is_any) no_more
    (c.begins_with_values-has_values.ensures ns d)))

pub returns-then-is_some : goal.returns-then-is_some
returns-then-is_some c ns d =
    let from_1 : Trees ℕ → Option Found = field (set_of_some is_any) no_more in
    c.in_ok-fields.ensures ns d (field (is_leaf 6) from_1)
    ∙ through _ _ _ _
    (c.in_ok-attribute_type.ensures.field ns (is_leaf 6) from_1
    (c.begins_with_leaf-has_type.ensures ns d))
    (through _ _ _ _
    (c.in_ok-values.ensures.field ns (set_of_some is_any) no_more
    (c.begins_with_values-has_values.ensures ns d))
    (end-some ns _ (sym c.is_some.ensures ∙ c.if-is_some.true)))

pub returns : goal.returns
returns c ns d =
    let from_1 : Trees ℕ → Option Found = field (set_of_some is_any) no_more in
    c.in_ok-fields.ensures ns d (field (is_leaf 6) from_1)
    ∙ through _ _ _ _
    (c.in_ok-attribute_type.ensures.field ns (is_leaf 6) from_1
    (c.begins_with_leaf-has_type.ensures ns d))
    (through _ _ _ _
    (c.in_ok-values.ensures.field ns (set_of_some is_any) no_more
    (c.begins_with_values-has_values.ensures ns d))
    (end-none ns _ (sym c.is_some.ensures ∙ c.if-is_some.false)))
