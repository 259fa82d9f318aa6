-- For `block::discard::discard`: what grows less, so that it ends.
use Rattle.asn1_blocks.specs.HeadersBegun.{all_blocks_in}
use Rattle.asn1_blocks.specs.View.{views}
use Rattle.asn1_blocks.proofs.block.discard.discard.Given as goal

-- the number of blocks that are left, at all depths
abbrev pub decreases-loop-blocks : goal.decreases-loop-blocks
decreases-loop-blocks l = all_blocks_in (views l.blocks.items)
