-- For `walk::Walk::next`: what it returns is right.
use Rattle.std.proofs.Common.{◌∙◌, ◌<◌, ◌≤◌, ◌+◌, ◌∷◌, ◌++◌, [], ap, arith, false, length, refl, slice_range, subst, sym}
use Rattle.dump_walk.specs.Fronts.{AddsLine, LinesTo}
use Rattle.dump_walk.specs.Pieces.{IsHolding, fault_offset, front_of}
use Rattle.dump_walk.specs.Steps.{to_go}
use Rattle.dump_walk.proofs.Cursors.{GoesTo-at, HasGone-left, HasGone-next, length-ends, to_go-left_le, to_go-step_lt}
use Rattle.dump_walk.proofs.Walks.{Takes-next}
use Rattle.dump_walk.proofs.walk.Walk.next.Goals as goal

pub returns-in_default : goal.returns-in_default
returns-in_default c = record {
  passes = λ octets fronts faults at.
      let m = c.next.new.self in
      let e = c.next.ensures in
      let gone = HasGone-left AddsLine octets false ([], []) c.args.self.now.cursor m (fronts, faults) e.octets e.offset
      e.ended at in
      (m.offset, subst (λ z. LinesTo octets m.offset z fronts faults) c.in_default.ensures.none gone.to);
}

pub returns : goal.returns
returns c =
    let k = c.args.self.now.cursor in
    let m = c.next.new.self in
    let n = c.go.new.self in
    let e = c.in-Some.ensures in
    let left = c.in-Some.left in
    let at = e.left in
    let levels = length at.around in
    let h = c.in_ok-place.ensures in
    let piece = c.in_ok-piece.piece in
    let p = c.in_ok-piece.ensures in
    let goes = c.in_ok-go.ensures in
    let f = front_of levels piece in
    let own = fault_offset piece.fault in
    let takes = Takes-next left m.offset levels piece.step f own (p.line levels) in
    let less : to_go n < to_go m = to_go-step_lt m n left piece.step at takes goes in
    let no_more : to_go m ≤ to_go k = to_go-left_le k m e.octets e.offset e.ended in
    record {
      passes = record {
        levels = levels;
        end = at.end;
        around = at.around;
        left = left.octets.now;
        here = λ octets fronts faults before.
            let gone = HasGone-left AddsLine octets false ([], []) k m (fronts, faults) e.octets e.offset e.ended before
            in
            subst (λ z. LinesTo octets z (at.end ∷ at.around) fronts faults) (sym p.offset_is)
            (GoesTo-at AddsLine octets false ([], []) m left at (fronts, faults) gone);
        ahead = λ octets fronts faults before.
            let gone = HasGone-left AddsLine octets false ([], []) k m (fronts, faults) e.octets e.offset e.ended before
            in
            HasGone-next AddsLine octets false ([], []) m left at (fronts, faults) gone n piece.step
            (fronts ++ f ∷ [], faults ++ own) (f, own, p.line levels, refl) goes;
        left_is = at.octets_are
            ∙ (ap (λ z. slice_range z m.offset at.end.offset) e.octets
            ∙ ap (λ z. slice_range k.octets.now z at.end.offset) (sym p.offset_is));
        sized = p.sized;
        inside = ap (λ z. z.is_inside) p.place_is ∙ h.same;
        base = ap (λ z. z.base) p.place_is ∙ h.base;
        depth = ap (λ z. z.depth) p.place_is ∙ (h.depth
            ∙ ap (λ z. c.args.self.now.place.depth + z) (c.depth-depth.ensures ∙ length-ends m left at));
        documents = ap (λ z. z.documents) p.place_is ∙ h.documents;
        style = ap (λ z. z.style) p.place_is ∙ h.style;
        holding = subst (λ z. IsHolding left.octets.now piece.kind z piece.nested) (sym p.place_is) p.holding;
        less = omega (arith, less, no_more);
        same_place = refl;
      };
    }
