-- For `header_walk::list_headers_within`: its loop keeps its invariant and what it returns is right (`walked`).
use Rattle.std.proofs.Common.{[], length, refl, reverse, ap, subst, arith}
use Rattle.std.proofs.lemmas.Grind.{common_steps}
use Rattle.std.proofs.lemmas.Result.{IfOk-weaker}
use Rattle.asn1_blocks.specs.Inner.ReaderSteps.{work_left}
use Rattle.asn1_outline.specs.Shapes.{HasShapes, entries_of}
use Rattle.asn1_outline.specs.Walking.{WalksAll, HasWalked}
use Rattle.asn1_outline.proofs.Walks.{WalksTo-start, AllOpen-equal}
use Rattle.asn1_outline.proofs.header_walk.list_headers_within.Goals as goal

pub turns-init : goal.turns-init
turns-init c =
    let x = c.args.octets.now in
    record {
      reading = (
        [],
        c.in-Ok.ensures,
        AllOpen-equal x _ _ [] (reverse c.new.result.items) 0 0 [] [] refl
            (ap reverse c.new.ensures.items) refl refl
            (record { start = refl; end = refl; read = WalksTo-start x 0 (length x) 0 0 (omega arith) (omega arith) }),
      );
    }

pub returns-in-End-clause-walked : goal.returns-in-End-clause-walked
returns-in-End-clause-walked c =
    let x = c.args.octets.now in
    let ended : WalksAll x c.take_turn.new.reader =
    subst (λ z. HasWalked x z c.take_turn.new.reader
    (work_left (length x) c.turns.reader.index c.turns.reader.outer.items)) c.in-End.is
    c.take_turn.ensures in
    let (all, are, front) = ended in
    let has : HasShapes x all = record { some = grind (arith, common_steps); shapes = are } in
    IfOk-weaker c.found_of.result _ _ (λ found is. (all, has, is (entries_of 0 0 all) front)) c.found_of.ensures.found
