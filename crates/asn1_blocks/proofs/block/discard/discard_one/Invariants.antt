-- For `block::discard::discard_one`: what grows less, so that it ends.
use Rattle.asn1_blocks.specs.HeadersBegun.{blocks_in}
use Rattle.asn1_blocks.specs.View.{view}
use Rattle.asn1_blocks.proofs.block.discard.discard_one.Given as goal

-- the number of blocks in the block that is taken apart
abbrev pub decreases-loop-block : goal.decreases-loop-block
decreases-loop-block l = blocks_in (view l.block)
