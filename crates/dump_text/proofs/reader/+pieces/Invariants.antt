-- For the cycle `pieces` of `reader`: what each turn of its loop keeps and what grows less, so that it ends.
use Rattle.std.proofs.Common.{◌≡◌, ◌+◌, ◌*◌}
use Rattle.dump_walk.specs.Steps.{to_go}
use Rattle.dump_text.proofs.reader.+pieces.Given as goal

abbrev pub decreases-read_nested : goal.decreases-read_nested
decreases-read_nested l = 2 * l.piece.now.place.documents

abbrev pub decreases-read_pieces : goal.decreases-read_pieces
decreases-read_pieces l = 2 * l.place.documents + 1

-- the pieces stand where the octets do
abbrev pub invariant-read_pieces-loop-walk : goal.invariant-read_pieces-loop-walk
invariant-read_pieces-loop-walk l = l.walk.place ≡ l.fn.place

abbrev pub decreases-read_pieces-loop-walk : goal.decreases-read_pieces-loop-walk
decreases-read_pieces-loop-walk l = to_go l.walk.cursor
