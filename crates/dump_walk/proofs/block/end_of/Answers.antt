-- For `block::end_of`: its loop begins with its invariant, keeps it and ends, and what it returns is right.
use Rattle.dump_walk.specs.ByOffsetSteps.{IsNext}
use Rattle.dump_walk.specs.Pieces.{HasEnded, Passes}
use Rattle.dump_walk.specs.declared.block.Next.TheVariants.{Behind, Deeper, Ended}
use Rattle.dump_walk.proofs.ByOffset.{EndsAt-next, HasNoEnd-behind, HasNoEnd-none, WentOn-next}
use Rattle.dump_walk.proofs.block.end_of.Goals as goal

pub loop-piece-preserved : goal.loop-piece-preserved
loop-piece-preserved c =
    let piece = c.in-Some.piece in
    let p : Passes c.loop-piece.walk c.next.new.self piece = rw c.in-Some.is at c.in_ok-piece.ensures.passes in
    let is : IsNext c.args.depth piece Deeper = rw c.in-Deeper.is at c.next_of.ensures in
    WentOn-next c.args.walk.now c.loop-piece.walk c.args.depth c.loop-piece.invariant c.next.new.self piece p is

pub returns-in-Ended : goal.returns-in-Ended
returns-in-Ended c =
    let piece = c.in-Some.piece in
    let offset = c.in-Ended.offset in
    let p : Passes c.loop-piece.walk c.next.new.self piece = rw c.in-Some.is at c.in_ok-piece.ensures.passes in
    let is : IsNext c.args.depth piece (Ended offset) = rw c.in-Ended.is at c.next_of.ensures in
    EndsAt-next c.args.walk.now c.loop-piece.walk c.args.depth c.loop-piece.invariant c.next.new.self piece p offset is

pub returns-in-Behind : goal.returns-in-Behind
returns-in-Behind c =
    let piece = c.in-Some.piece in
    let p : Passes c.loop-piece.walk c.next.new.self piece = rw c.in-Some.is at c.in_ok-piece.ensures.passes in
    let is : IsNext c.args.depth piece Behind = rw c.in-Behind.is at c.next_of.ensures in
    HasNoEnd-behind c.args.walk.now c.loop-piece.walk c.args.depth c.loop-piece.invariant c.next.new.self piece p is

pub returns : goal.returns
returns c =
    let ended : HasEnded c.loop-piece.walk = rw c.in_default.is at c.in_ok-piece.ensures.passes in
    HasNoEnd-none c.args.walk.now c.loop-piece.walk c.args.depth c.loop-piece.invariant ended
