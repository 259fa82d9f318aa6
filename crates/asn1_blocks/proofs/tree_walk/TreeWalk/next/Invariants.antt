-- For `tree_walk::TreeWalk::next`: what each turn of its loop keeps and what grows less, so that it ends.
use Rattle.std.proofs.Common.{◌≡◌, length}
use Rattle.asn1_blocks.specs.Inner.TreeOrder.{ahead}
use Rattle.asn1_blocks.proofs.tree_walk.TreeWalk.next.Given as goal

abbrev pub invariant-loop-block : goal.invariant-loop-block
invariant-loop-block l = ahead l.self ≡ ahead l.fn.self

abbrev pub decreases-loop-block : goal.decreases-loop-block
decreases-loop-block l = length l.self.outer.items
