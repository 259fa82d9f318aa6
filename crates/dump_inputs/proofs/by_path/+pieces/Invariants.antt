-- For the cycle `pieces` of `by_path`: what each turn of its loop keeps and what grows less, so that it ends.
use Rattle.std.proofs.Common.{◌≡◌, ◌+◌, ◌*◌}
use Rattle.dump_walk.specs.Steps.{to_go}
use Rattle.dump_inputs.proofs.by_path.+pieces.Given as goal

abbrev pub decreases-go_inside : goal.decreases-go_inside
decreases-go_inside l = 2 * l.piece.now.place.documents

abbrev pub decreases-go_over : goal.decreases-go_over
decreases-go_over l = 2 * l.place.documents + 1

-- the pieces stand where the octets do
abbrev pub invariant-go_over-loop-walk : goal.invariant-go_over-loop-walk
invariant-go_over-loop-walk l = l.walk.place ≡ l.fn.place

abbrev pub decreases-go_over-loop-walk : goal.decreases-go_over-loop-walk
decreases-go_over-loop-walk l = to_go l.walk.cursor
