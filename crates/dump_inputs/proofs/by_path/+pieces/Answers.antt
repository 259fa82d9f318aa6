-- For the cycle `pieces` of `by_path`: its loop keeps its invariant.
use Rattle.std.proofs.Common.{◌∙◌}
use Rattle.dump_walk.specs.Pieces.{Passes}
use Rattle.dump_inputs.proofs.by_path.+pieces.Goals as goal

pub go_over-loop-walk-init : goal.go_over-loop-walk-init
go_over-loop-walk-init t c = c.in_ok-walk.ensures.place

pub go_over-loop-walk-preserved : goal.go_over-loop-walk-preserved
go_over-loop-walk-preserved t c =
    let p : Passes c.loop-walk.walk c.next.new.self c.in-Some.piece = rw c.in-Some.is at c.in_ok-piece.ensures.passes in
    p.same_place ∙ c.loop-walk.invariant
