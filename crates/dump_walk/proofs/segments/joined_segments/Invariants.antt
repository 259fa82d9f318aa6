-- For `segments::joined_segments`: what each turn of its loop keeps and what grows less, so that it ends.
use Rattle.dump_walk.specs.Segments.{AddsSegment, no_segments}
use Rattle.dump_walk.specs.Steps.{HasGone, to_go}
use Rattle.dump_walk.proofs.segments.joined_segments.Given as goal

abbrev pub invariant-loop-left : goal.invariant-loop-left
invariant-loop-left l =
    HasGone (AddsSegment l.tag) l.contents l.is_indefinite (no_segments l.tag) l.cursor l.joined.items

abbrev pub decreases-loop-left : goal.decreases-loop-left
decreases-loop-left l = to_go l.cursor
