-- For `block::ended_block`: what it returns is right.
use Rattle.std.proofs.Common.{◌≡◌, ◌∙◌, ◌+◌, ap, arith, slice_range}
use Rattle.dump_walk.specs.ByOffsetSteps.{EndsAt, HasNoEnd}
use Rattle.dump_walk.specs.Pieces.{kind_header}
use Rattle.dump_walk.proofs.ByOffset.{HasNoElementAt-without_end, IsElementAt-ended}
use Rattle.dump_walk.proofs.block.ended_block.Goals as goal

pub returns-in_default : goal.returns-in_default
returns-in_default c = λ before h.
    let piece = c.args.piece.now in
    let none : HasNoEnd c.args.walk.now piece.place.depth = rw c.in_default.is at c.in_ok-end.ensures in
    HasNoElementAt-without_end c.args.octets.now before c.args.walk.now piece h c.requires.whole c.requires.form none

pub returns : goal.returns
returns c = λ before h.
    let piece = c.args.piece.now in
    let end = c.in-Some.end in
    let ends : EndsAt c.args.walk.now piece.place.depth end = rw c.in-Some.is at c.in_ok-end.ensures in
    let first : c.in_ok-contents.contents ≡ piece.offset + kind_header piece.kind =
    omega (arith, c.in_ok-contents.ensures, c.sizes.ensures.header) in
    IsElementAt-ended c.args.octets.now before c.args.walk.now piece h c.requires.whole c.requires.form
    c.octets_between.result.now c.octets_between-2.result.now end ends
    (c.octets_between.ensures ∙ ap (slice_range c.args.octets.now piece.offset) c.in_ok-checked_sum.ensures)
    (c.octets_between-2.ensures ∙ ap (λ z. slice_range c.args.octets.now z end) first)
