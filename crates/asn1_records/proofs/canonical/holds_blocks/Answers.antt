-- For `canonical::holds_blocks`: what it returns is right.
use Rattle.std.proofs.Common.{◌≡◌, ◌∙◌, sym, inl, inr, arith}
use Rattle.std.proofs.lemmas.Grind.{common_steps}
use Rattle.asn1_blocks.proofs.Leaves.{is_group_tag-group}
use Rattle.asn1_records.proofs.canonical.holds_blocks.Goals as goal

pub returns-in-Universal : goal.returns-in-Universal
returns-in-Universal c is_true =
    let (g, is) = is_group_tag-group c.args.tag (sym c.is_group_tag.ensures ∙ is_true) in
    inl (c.in-Universal.is, g, is)

pub returns-in_default : goal.returns-in_default
returns-in_default c is_true =
    let one : c.args.items ≡ 1 = grind (arith, common_steps, is_true) in
    inr (c.in_default.not-Universal, one)
