-- For `block::discard::unnest`: what each turn of its loop keeps and what grows less, so that it ends.
use Rattle.std.proofs.Common.{◌+◌, ◌≤◌}
use Rattle.asn1_blocks.specs.HeadersBegun.{all_blocks_in, blocks_in}
use Rattle.asn1_blocks.specs.View.{view, views}
use Rattle.asn1_blocks.proofs.block.discard.unnest.Given as goal

-- there are no more blocks than at first
abbrev pub invariant-loop-block : goal.invariant-loop-block
invariant-loop-block l =
    blocks_in (view l.block) + all_blocks_in (views l.rest.items) ≤ blocks_in (view l.initial.block) + all_blocks_in
    (views l.initial.rest.items)

-- the number of blocks in the block that is taken apart
abbrev pub decreases-loop-block : goal.decreases-loop-block
decreases-loop-block l = blocks_in (view l.block)
