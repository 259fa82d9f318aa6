-- For the cycle `rows` of `rows`: its loop keeps its invariant and what it returns is right.
use Rattle.std.proofs.Common.{◌∙◌, codes, subst, true}
use Rattle.std.specs.Io.KnownBytes.{Appends}
use Rattle.dump_walk.specs.Pieces.{Passes}
use Rattle.dump_json.specs.Grammar.{IsOpenArray, IsOpenObject, IsValue}
use Rattle.dump_json.proofs.Written.{IsWritten-again, IsWritten-item, IsWritten-member, IsWritten-then}
use Rattle.dump_json.proofs.line.Dumper.+rows.Goals as goal

pub write_row-returns : goal.write_row-returns
write_row-returns g t c =
    IsWritten-then (IsOpenObject _) IsValue _ _ _ c.in_ok-is_later.ensures
    c.in_ok-write_end.ensures

pub write_end-returns-in_default : goal.write_end-returns-in_default
write_end-returns-in_default g t c =
    (codes "}", c.in_ok-write_part.ensures.written, λ s o. IsValue.object c.args.is_later s o)

pub write_end-returns : goal.write_end-returns
write_end-returns g t c =
    IsWritten-again (IsOpenObject c.args.is_later) (IsOpenObject true) IsValue _ _ _
    (IsWritten-member c.args.is_later _ _ _ _ c.in_ok-write_part-2.ensures.written c.begin.ensures
    c.in_ok-write_rows.ensures)
    (codes "}", c.in_ok-write_part-3.ensures.written, λ s o. IsValue.object true s o)

pub write_rows-pieces-init : goal.write_rows-pieces-init
write_rows-pieces-init g t c = record {
  same_place = c.in_ok-walk.ensures.place;
  begun = (_, c.in_ok-write_part.ensures.written, IsOpenArray.begin_array);
}

pub write_rows-pieces-preserved : goal.write_rows-pieces-preserved
write_rows-pieces-preserved g t c =
    let piece = c.in-Some.piece in
    let p : Passes c.pieces.walk c.next.new.self piece = rw c.in-Some.is at c.in_ok-piece.ensures.passes in
    record {
      same_place = p.same_place ∙ c.pieces.invariant.same_place;
      begun =
          IsWritten-then (IsOpenArray c.pieces.is_later) (IsOpenArray true) _ _ _ c.pieces.invariant.begun
          (IsWritten-item c.pieces.is_later _ _ _
          (subst (Appends _ _) c.comma.ensures c.in_ok-write_part-2.ensures.written) c.in_ok-write_row.ensures);
    }

pub write_rows-returns : goal.write_rows-returns
write_rows-returns g t c =
    IsWritten-then (IsOpenArray c.pieces.is_later) IsValue _ _ _ c.pieces.invariant.begun
    (codes "]", c.in_ok-write_part-3.ensures.written, λ s o. IsValue.array c.pieces.is_later s o)
