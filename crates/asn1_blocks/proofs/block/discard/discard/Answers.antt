-- For `block::discard::discard`: its loop ends.
use Rattle.std.proofs.Common.{ap, ◌∙◌, arith}
use Rattle.asn1_blocks.specs.HeadersBegun.{all_blocks_in}
use Rattle.asn1_blocks.specs.View.{views}
use Rattle.asn1_blocks.proofs.Unnesting.{all_blocks_in-append_last}
use Rattle.asn1_blocks.proofs.block.discard.discard.Goals as goal

pub loop-blocks-smaller : goal.loop-blocks-smaller
loop-blocks-smaller c =
    let e = ap (λ z. all_blocks_in (views z)) c.take_last-block.ensures.items
    ∙ all_blocks_in-append_last c.take_last-block.new.self.items c.take_last-block.result in
    omega (arith, e, c.unnest-blocks.ensures)
