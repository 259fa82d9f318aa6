-- For `lists::write_all`: what it returns is right.
use Rattle.std.proofs.Common.{◌≡◌, map, take, ap, ◌∙◌, arith}
use Rattle.std.proofs.lemmas.Grind.{common_steps}
use Rattle.asn1_blocks.specs.Tree.{trees_of}
use Rattle.asn1_types.proofs.ListTrees.{shapes-views}
use Rattle.asn1_types.proofs.lists.write_all.Goals as goal

pub returns-clause-made : goal.returns-clause-made
returns-clause-made g c =
    let all : take c.loop-value.value-index c.args.values.now ≡ c.args.values.now = grind (arith, common_steps) in
    shapes-views c.loop-value.blocks.items
    ∙ ap trees_of (c.loop-value.invariant ∙ ap (λ xs. map g.T.Asn1Type.tree xs) all)
