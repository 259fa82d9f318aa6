-- For `sets::tag_order`: what it returns is right.
use Rattle.std.proofs.Common.{rules}
use Rattle.std.specs.Ordering.{nat_cmp}
use Rattle.asn1_blocks.specs.BlockParts.{tree_tag}
use Rattle.asn1_blocks.specs.View.{view}
use Rattle.simple_asn1.proofs.Order.{ordering_then-Equal}
use Rattle.simple_asn1.proofs.sets.tag_order.Goals as goal

pub returns : goal.returns
returns c =
    rw (ordering_then-Equal (nat_cmp (tree_tag (view c.args.a.now)) (tree_tag (view c.args.b.now)))) (search rules)
