-- For `string_value::contents_in_one_piece`: what it returns is right, of a constructed string.
use Rattle.std.proofs.Common.{subst, sym}
use Rattle.std.specs.Prelude.{IfOk, MatchOption}
use Rattle.dump_walk.specs.Segments.{AreSegmentsOf, HaveNoSegments}
use Rattle.dump_walk.specs.StringOctets.{AreInNoPiece, AreInOnePiece}
use Rattle.dump_walk.proofs.string_value.contents_in_one_piece.Goals as goal

pub returns-then-header : goal.returns-then-header
returns-then-header c =
    let element = c.args.element.now in
    let tag = c.args.tag in
    let header = c.args.header.now in
    let found = c.joined_segments.result in
    subst (λ z. IfOk found (λ f. MatchOption f (AreInNoPiece element tag header z)
    (λ joined. AreInOnePiece element tag header z joined.items))) (sym c.if-header.true)
    (subst (λ z. IfOk found (λ f. MatchOption f (HaveNoSegments tag z header.is_indefinite)
    (λ joined. AreSegmentsOf tag z header.is_indefinite joined.items))) c.split_at.ensures.back
    c.joined_segments.ensures)
