-- For `lists::read_all`: what it returns is right.
use Rattle.std.proofs.Common.{◌≡◌, map, take, sym, ap, ◌∙◌, arith}
use Rattle.std.proofs.lemmas.Grind.{common_steps}
use Rattle.asn1_blocks.specs.Tree.{trees_of}
use Rattle.asn1_types.proofs.ListTrees.{shape_of, shapes-views, value-at}
use Rattle.asn1_types.proofs.lists.read_all.Goals as goal

pub returns-in-Err : goal.returns-in-Err
returns-in-Err g c at s xs e =
    let p = value-at g.T.Asn1Type.tree c.args.blocks.now xs c.loop-block.block-index c.block-item.result e
    c.loop-block-test.true in
    c.in-Err.ensures at s p.0 (ap shape_of c.block-item.is ∙ p.1)

pub returns : goal.returns
returns g c =
    let all : take c.loop-block.block-index c.args.blocks.now ≡ c.args.blocks.now = grind (arith, common_steps) in
    shapes-views c.args.blocks.now
    ∙ ap trees_of (ap (λ bs. map shape_of bs) (sym all) ∙ c.loop-block.invariant)
