-- For the cycle `rows` of `rows`: what each turn of its loop keeps and what grows less, so that it ends.
use Rattle.std.proofs.Common.{◌+◌, ◌*◌}
use Rattle.dump_walk.specs.Steps.{to_go}
use Rattle.dump_json.proofs.Walk.{RowsTo}
use Rattle.dump_json.proofs.line.Dumper.+rows.Given as goal

abbrev pub decreases-write_end : goal.decreases-write_end
decreases-write_end g l = 3 * l.piece.now.place.documents

abbrev pub decreases-write_row : goal.decreases-write_row
decreases-write_row g l = 3 * l.piece.place.documents + 1

abbrev pub decreases-write_rows : goal.decreases-write_rows
decreases-write_rows g l = 3 * l.place.documents + 2

-- the objects of the pieces before the walk were written
abbrev pub invariant-write_rows-pieces : goal.invariant-write_rows-pieces
invariant-write_rows-pieces g l =
    RowsTo l.fn.place l.walk l.is_later (g.W.Write.contents l.fn.out) (g.W.Write.contents l.out)

abbrev pub decreases-write_rows-pieces : goal.decreases-write_rows-pieces
decreases-write_rows-pieces g l = to_go l.walk.cursor
