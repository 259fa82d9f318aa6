-- For `tree_walk::in_tree_order`: what each turn of its loop keeps and what grows less, so that it ends.
use Rattle.std.proofs.Common.{map}
use Rattle.asn1_blocks.specs.HeadersBegun.{all_blocks_in}
use Rattle.asn1_blocks.specs.Inner.TreeOrder.{ahead}
use Rattle.asn1_blocks.specs.View.{views}
use Rattle.asn1_blocks.proofs.TreeOrders.{IsFoundBefore}
use Rattle.asn1_blocks.proofs.tree_walk.in_tree_order.Given as goal

abbrev pub invariant-loop-walk : goal.invariant-loop-walk
invariant-loop-walk l = IsFoundBefore (map (λ b. b.now) l.order.items) (ahead l.walk) l.fn.blocks

abbrev pub decreases-loop-walk : goal.decreases-loop-walk
decreases-loop-walk l = all_blocks_in (views (ahead l.walk))
