-- For the cycle `encodings` of `encodings`: what each turn of its loop keeps and what grows less, so that it ends.
use Rattle.std.proofs.Common.{◌+◌, ◌*◌}
use Rattle.dump_rows.specs.Printing.{IsPrinted}
use Rattle.dump_lines.specs.Steps.{mark_offsets}
use Rattle.dump_walk.specs.Steps.{to_go}
use Rattle.dump_lines.proofs.Shown.{ShownTo}
use Rattle.dump_lines.proofs.document.Dumper.+encodings.Given as goal

abbrev pub decreases-push_nested : goal.decreases-push_nested
decreases-push_nested g l = 3 * l.piece.now.place.documents

abbrev pub decreases-push_piece : goal.decreases-push_piece
decreases-push_piece g l = 3 * l.piece.now.place.documents + 1

abbrev pub decreases-push_encodings : goal.decreases-push_encodings
decreases-push_encodings g l = 3 * l.place.documents + 2

-- the lines of the pieces before the walk were put
abbrev pub invariant-push_encodings-loop-walk : goal.invariant-push_encodings-loop-walk
invariant-push_encodings-loop-walk g l =
    IsPrinted g.W.Write.contents (ShownTo l.fn.self.is_strict l.fn.place l.fn.octets l.walk l.first
    (mark_offsets l.fn.marks.items) (mark_offsets l.marks.items)) l.fn.printer l.printer

abbrev pub decreases-push_encodings-loop-walk : goal.decreases-push_encodings-loop-walk
decreases-push_encodings-loop-walk g l = to_go l.walk.cursor
