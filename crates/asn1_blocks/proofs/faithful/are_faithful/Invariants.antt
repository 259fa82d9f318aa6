-- For `faithful::are_faithful`: what each turn of its loop keeps and what grows less, so that it ends.
use Rattle.asn1_blocks.specs.HeadersBegun.{all_blocks_in}
use Rattle.asn1_blocks.specs.Inner.TreeOrder.{ahead}
use Rattle.asn1_blocks.specs.View.{views}
use Rattle.asn1_blocks.proofs.FaithfulWalk.{IsDecidedBy}
use Rattle.asn1_blocks.proofs.faithful.are_faithful.Given as goal

-- all blocks are faithful exactly if those ahead are
abbrev pub invariant-loop-walk : goal.invariant-loop-walk
invariant-loop-walk l = IsDecidedBy l.fn.blocks (ahead l.walk)

abbrev pub decreases-loop-walk : goal.decreases-loop-walk
decreases-loop-walk l = all_blocks_in (views (ahead l.walk))
