-- For `segments::joined_segments`: its loop begins with its invariant, keeps it and ends, and what it returns is right.
use Rattle.std.proofs.Common.{◌<◌, ◌≤◌, arith, ap, length, reverse, rules, subst, ◌∙◌}
use Rattle.dump_walk.specs.Segments.{AddsSegment, BeginWithSegments, HasNoSegment, IsSegment, no_segments}
use Rattle.dump_walk.specs.Steps.{none_yet, to_go}
use Rattle.dump_walk.proofs.Cursors.{GoesTo-at, HasGone-left, HasGone-next, slice_range-left, to_go-left_le, to_go-step_lt}
use Rattle.dump_walk.proofs.JoinedSegments.{Takes-segment}
use Rattle.dump_walk.proofs.segments.joined_segments.Goals as goal

pub loop-left-init : goal.loop-left-init
loop-left-init c = record {
  same_octets = c.in_ok-cursor.ensures.octets;
  to = none_yet c.in_ok-cursor.ensures.offset (ap reverse c.in_ok-cursor.ensures.ends) (search rules);
}

pub loop-left-smaller : goal.loop-left-smaller
loop-left-smaller c =
    let k = c.loop-left.cursor in
    let m = c.next.new.self in
    let n = c.go.new.self in
    let e = c.in-Some.ensures in
    let left = c.in-Some.left in
    let step = c.in-Some-2.step in
    let segment : IsSegment c.args.tag left.octets.now left.is_indefinite step c.loop-left.joined.items
    c.join_next.new.joined.items =
    rw c.in-Some-2.is at c.in_ok-step.ensures in
    let takes = Takes-segment c.args.tag left step _ _ segment in
    let less : to_go n < to_go m = to_go-step_lt m n left step e.left takes c.in_ok-go.ensures in
    let fewer : to_go m ≤ to_go k = to_go-left_le k m e.octets e.offset e.ended in
    omega (arith, less, fewer)

pub loop-left-preserved : goal.loop-left-preserved
loop-left-preserved c =
    let tag = c.args.tag in
    let contents = c.args.contents.now in
    let m = c.next.new.self in
    let e = c.in-Some.ensures in
    let left = c.in-Some.left in
    let step = c.in-Some-2.step in
    let segment : IsSegment tag left.octets.now left.is_indefinite step c.loop-left.joined.items
    c.join_next.new.joined.items =
    rw c.in-Some-2.is at c.in_ok-step.ensures in
    HasGone-next (AddsSegment tag) contents c.args.is_indefinite (no_segments tag) m left e.left _
    (HasGone-left (AddsSegment tag) contents c.args.is_indefinite (no_segments tag) c.loop-left.cursor m _ e.octets
    e.offset e.ended c.loop-left.invariant) c.go.new.self step _ segment c.in_ok-go.ensures

pub returns-in_default-2 : goal.returns-in_default-2
returns-in_default-2 c =
    let tag = c.args.tag in
    let contents = c.args.contents.now in
    let m = c.next.new.self in
    let e = c.in-Some.ensures in
    let left = c.in-Some.left in
    let at = e.left in
    let before = c.loop-left.joined.items in
    let none : HasNoSegment tag left.octets.now left.is_indefinite before =
    rw c.in_default-2.is at c.in_ok-step.ensures in
    let h = HasGone-left (AddsSegment tag) contents c.args.is_indefinite (no_segments tag) c.loop-left.cursor m _
    e.octets e.offset e.ended c.loop-left.invariant in
    let is = slice_range-left (AddsSegment tag) contents c.args.is_indefinite (no_segments tag) m left at before h in
    record {
      offset = m.offset;
      end = at.end;
      around = at.around;
      before = before;
      begin = GoesTo-at (AddsSegment tag) contents c.args.is_indefinite (no_segments tag) m left at before h;
      not_ended = λ definite. subst (λ z. 0 < length z) is (at.some (at.form ∙ definite));
      no_segment = subst (λ z. HasNoSegment tag z at.end.is_indefinite before) is
          (subst (λ z. HasNoSegment tag left.octets.now z before) at.form none);
    }

pub returns : goal.returns
returns c =
    let tag = c.args.tag in
    let contents = c.args.contents.now in
    let m = c.next.new.self in
    let e = c.next.ensures in
    let h = HasGone-left (AddsSegment tag) contents c.args.is_indefinite (no_segments tag) c.loop-left.cursor m _
    e.octets e.offset e.ended c.loop-left.invariant in (
      m.offset,
      subst (λ z. BeginWithSegments tag contents c.args.is_indefinite m.offset z c.loop-left.joined.items)
          c.in_default.ensures.none h.to,
    )
