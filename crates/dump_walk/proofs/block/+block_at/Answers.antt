-- For `block::block_at`: its loop begins with its invariant, keeps it and ends, and what it returns is right.
use Rattle.std.proofs.Common.{[], ap, arith}
use Rattle.std.proofs.lemmas.Result.{IfOk-weaker}
use Rattle.dump_walk.specs.ByOffsetSteps.{IsFound}
use Rattle.dump_walk.specs.Pieces.{HasEnded, Passes}
use Rattle.dump_walk.specs.declared.block.Found.TheVariants.{Passed, Within}
use Rattle.dump_walk.proofs.ByOffset.{Finds-here, Finds-inside, Finds-none, Finds-passed, SearchedTo-next}
use Rattle.dump_walk.proofs.block.+block_at.Goals as goal

pub loop-walk-init : goal.loop-walk-init
loop-walk-init t c =
    let o = c.in_ok-walk.ensures in
    record {
      same_place = o.place;
      fronts = [];
      has_passed = ([], o.begun);
      elsewhere = tt;
    }

pub returns-then-has_row_at : goal.returns-then-has_row_at
returns-then-has_row_at t c =
    let piece = c.in-Some.piece in
    let p : Passes c.loop-walk.walk c.next.new.self piece = rw c.in-Some.is at c.in_ok-piece.ensures.passes in
    let there = c.has_row_at.ensures.there c.if-has_row_at.true in
    IfOk-weaker c.block_of.result _ _
    (λ found is. Finds-here c.args.place c.args.octets.now c.args.offset c.loop-walk.walk c.next.new.self
    c.loop-walk.invariant piece p found there is) c.block_of.ensures

pub block_at-requires : goal.block_at-requires
block_at-requires t c =
    let piece = c.in-Some.piece in
    let p : Passes c.loop-walk.walk c.next.new.self piece = rw c.in-Some.is at c.in_ok-piece.ensures.passes in
    let is : IsFound c.args.offset piece (Within c.in-Within.inside) = rw c.in-Within.is at c.in_ok-inside.ensures in
    let same = ap (λ z. z.documents) c.loop-walk.invariant.same_place in
    omega (arith, is.1, p.documents, same)

pub returns-in-Within : goal.returns-in-Within
returns-in-Within t c =
    let piece = c.in-Some.piece in
    let p : Passes c.loop-walk.walk c.next.new.self piece = rw c.in-Some.is at c.in_ok-piece.ensures.passes in
    let inside = c.in-Within.inside in
    let is : IsFound c.args.offset piece (Within inside) = rw c.in-Within.is at c.in_ok-inside.ensures in
    IfOk-weaker c.block_at.result _ _
    (λ found in_string. Finds-inside c.args.place c.args.octets.now c.args.offset c.loop-walk.walk c.next.new.self
    c.loop-walk.invariant piece p inside found is.0 in_string) c.block_at.ensures

pub returns-in-Passed : goal.returns-in-Passed
returns-in-Passed t c =
    let piece = c.in-Some.piece in
    let p : Passes c.loop-walk.walk c.next.new.self piece = rw c.in-Some.is at c.in_ok-piece.ensures.passes in
    let is : IsFound c.args.offset piece Passed = rw c.in-Passed.is at c.in_ok-inside.ensures in
    Finds-passed c.args.place c.args.octets.now c.args.offset c.loop-walk.walk c.next.new.self c.loop-walk.invariant
    piece p is

pub loop-walk-preserved : goal.loop-walk-preserved
loop-walk-preserved t c =
    let piece = c.in-Some.piece in
    let p : Passes c.loop-walk.walk c.next.new.self piece = rw c.in-Some.is at c.in_ok-piece.ensures.passes in
    SearchedTo-next c.args.place c.args.octets.now c.args.offset c.loop-walk.walk c.next.new.self c.loop-walk.invariant
    piece p (c.has_row_at.ensures.elsewhere c.if-has_row_at.false)

pub returns : goal.returns
returns t c =
    let ended : HasEnded c.loop-walk.walk = rw c.in_default.is at c.in_ok-piece.ensures.passes in
    Finds-none c.args.place c.args.octets.now c.args.offset c.loop-walk.walk c.loop-walk.walk c.loop-walk.invariant
    ended
