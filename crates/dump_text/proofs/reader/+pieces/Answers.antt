-- For the cycle `pieces` of `reader`: its loop keeps its invariant.
use Rattle.std.proofs.Common.{◌∙◌}
use Rattle.dump_walk.specs.Pieces.{Passes}
use Rattle.dump_text.proofs.reader.+pieces.Goals as goal

pub read_pieces-loop-walk-init : goal.read_pieces-loop-walk-init
read_pieces-loop-walk-init t c = c.in_ok-walk.ensures.place

pub read_pieces-loop-walk-preserved : goal.read_pieces-loop-walk-preserved
read_pieces-loop-walk-preserved t c =
    let p : Passes c.loop-walk.walk c.next.new.self c.in-Some.piece = rw c.in-Some.is at c.in_ok-piece.ensures.passes in
    p.same_place ∙ c.loop-walk.invariant
