-- For `validity::is_time`: what it returns is right.
use Rattle.std.proofs.Common.{sym, ap, ◌∙◌}
use Rattle.std.specs.Prelude.{◌||◌}
use Rattle.asn1_outline.specs.Structure.{tree_at}
use Rattle.asn1_certificate.specs.Sequences.{is_leaf}
use Rattle.asn1_certificate.proofs.validity.is_time.Goals as goal

pub returns-then-is_leaf : goal.returns-then-is_leaf
returns-then-is_leaf c ns d =
    sym (ap (λ z. z || is_leaf 24 (tree_at ns c.args.index)) (sym (c.is_leaf.ensures ns d) ∙ c.if-is_leaf.true))

pub returns : goal.returns
returns c ns d =
    c.is_leaf-2.ensures ns d
    ∙ sym (ap (λ z. z || is_leaf 24 (tree_at ns c.args.index)) (sym (c.is_leaf.ensures ns d) ∙ c.if-is_leaf.false))
