-- For `block::whole_block`: what it returns is right.
use Rattle.std.proofs.Common.{sym, ◌∙◌}
use Rattle.dump_walk.proofs.ByOffset.{IsElementAt-sized}
use Rattle.dump_walk.proofs.block.whole_block.Goals as goal

pub returns : goal.returns
returns c = λ before h.
    let block = c.in_ok-sized_block.field-0 in
    let is = c.in_ok-sized_block.ensures in
    IsElementAt-sized c.args.octets.now before c.args.walk.now c.args.piece.now h c.requires block.octets.now
    block.contents.now (sym c.sizes.ensures.indefinite ∙ c.if-sizes.false) is.octets is.contents
