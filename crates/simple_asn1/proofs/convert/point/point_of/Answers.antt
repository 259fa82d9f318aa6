-- For `convert::point::point_of`: what it returns is right.
use Rattle.std.proofs.Common.{arith}
use Rattle.std.proofs.lemmas.Grind.{common_steps}
use Rattle.simple_asn1.proofs.Points.{point_tree-not_two_items}
use Rattle.asn1_blocks.specs.View.{view}
use Rattle.simple_asn1.proofs.convert.point.point_of.Goals as goal

pub returns-then-items-ne2 : goal.returns-then-items-ne2
returns-then-items-ne2 c p x y =
    point_tree-not_two_items (view c.args.b.now)
    p c.in_ok-items.items.now c.if-items-ne2.true c.in_ok-items.ensures.shape

pub returns : goal.returns
returns c = grind (arith, common_steps)
