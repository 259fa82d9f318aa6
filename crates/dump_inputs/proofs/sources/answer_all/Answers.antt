-- For `sources::answer_all`: its loop begins with its invariant and keeps it, and what it returns is right.
use Rattle.std.proofs.Common.{[], ◌≡◌, arith, map, refl, subst, sym, take, true, ◌∙◌}
use Rattle.std.proofs.lemmas.List.{take_all}
use Rattle.std.specs.Io.KnownBytes.{Keeps}
use Rattle.dump_inputs.specs.Inputs.{IsDone, IsInputText, is_extract}
use Rattle.dump_inputs.specs.Texts.{AreTexts}
use Rattle.dump_inputs.proofs.Readers.{AreReadToEnds-next_source, IsDone-next_source, drop-set_next}
use Rattle.dump_inputs.proofs.Texts.{IsDone-kept, IsDone-nil}
use Rattle.dump_inputs.proofs.sources.answer_all.Goals as goal

pub loop-source-init : goal.loop-source-init
loop-source-init g c =
    let before = g.W.Write.contents c.args.printer.now.out in
    let none = c.new-outcomes.ensures.items in
    record {
      answered = rw none (IsDone-nil c.args.task (AreTexts (IsInputText c.args.task) [] []) before refl);
      begun = λ _. refl;
      read = rw none tt;
      left = refl;
    }

pub loop-source-preserved : goal.loop-source-preserved
loop-source-preserved g c =
    let i = c.loop-source.source-index in
    let all = c.args.sources.now in
    let now = c.loop-source.sources in
    let l = c.loop-source-test.true in
    let n = c.loop-source.auto.sources in
    let left = c.loop-source.invariant.left in
    let were = c.loop-source.outcomes.items in
    let are = c.push.new.self.items in
    let last = c.in_ok-outcome.outcome in
    let e = sym c.is_err.ensures.value ∙ c.if-is_err.false in
    let p = c.push.ensures.items in
    record {
      answered =
          IsDone-next_source i all now l n left c.push.result were are last e p
          (IsInputText c.args.task) (λ source. g.R.Read.remaining source.reader) c.source-item.result c.args.task
          (g.W.Write.contents c.args.printer.now.out) (g.W.Write.contents c.loop-source.printer.out)
          (g.W.Write.contents c.answer.new.printer.out) c.loop-source.invariant.answered
          c.in_ok-outcome.ensures.answered;
      begun = λ is. c.in_ok-outcome.ensures.begun is ∙ c.loop-source.invariant.begun is;
      read =
          AreReadToEnds-next_source i all now l n left c.push.result were are last e p
          (λ source. g.R.Read.remaining source.reader)
          c.answer.new.source c.loop-source.invariant.read c.in_ok-outcome.ensures.read;
      left = drop-set_next i all now l n left c.push.result were are last e p c.answer.new.source;
    }

pub returns-clause-answered : goal.returns-clause-answered
returns-clause-answered g c =
    let all = c.args.sources.now in
    let i = c.loop-source.source-index in
    let whole : take i all ≡ all =
    let same = c.loop-source.auto.sources in
    let passed = c.loop-source-test.false in take_all i all (omega (arith, same, passed)) in
    let contents = g.W.Write.contents in
    let before = contents c.args.printer.now.out in
    let after = contents c.flush.new.w in
    let kept : is_extract c.args.task ≡ true → Keeps (contents c.loop-source.printer.out) after =
    λ is. subst (λ z. Keeps z after) (c.in_ok-end.ensures (c.loop-source.invariant.begun is))
    c.in_ok-flush.ensures.kept in
    subst (λ z. IsDone c.args.task (AreTexts (IsInputText c.args.task)
    (map (λ source. g.R.Read.remaining source.reader) z) c.loop-source.outcomes.items) before after) whole
    (IsDone-kept c.args.task _ before (contents c.loop-source.printer.out) after c.loop-source.invariant.answered kept)
