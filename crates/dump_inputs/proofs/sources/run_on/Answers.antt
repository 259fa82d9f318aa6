-- For `sources::run_on`: what it returns is right, and the writer holds at first what it held before.
use Rattle.std.proofs.Common.{map, subst, sym}
use Rattle.std.proofs.lemmas.Result.{IfOk-weaker}
use Rattle.dump_inputs.specs.Growing.{Grows}
use Rattle.dump_inputs.specs.Inputs.{IsDone, IsInputText}
use Rattle.dump_inputs.specs.Texts.{AreTexts}
use Rattle.dump_inputs.proofs.Growing.{Grows-refl}
use Rattle.dump_inputs.proofs.sources.run_on.Goals as goal

pub invariant_of-out : goal.invariant_of-out
invariant_of-out g c =
    let before = g.B.Before.before in
    record { grows = ∣ subst (Grows before) (sym c.requires) (Grows-refl before) ∣₁ }

pub returns-clause-answered : goal.returns-clause-answered
returns-clause-answered g c =
    let contents = g.W.Write.contents in
    let writer = c.answer_all-outcomes.new.printer.out in
    let inputs = map (λ source. g.R.Read.remaining source.reader) c.args.sources.now in
    let task = c.args.options.now.task in
    IfOk-weaker c.answer_all-outcomes.result _ _
    (λ outcomes done.
    let Texts = AreTexts (IsInputText task) inputs outcomes.items in
    subst (λ z. IsDone task Texts (contents c.args.w) (contents z.writer)) (sym c.into_writer-writer.ensures)
    (subst (λ z. IsDone task Texts (contents z.writer) (contents writer.writer)) c.new-printer.ensures.out done))
    c.answer_all-outcomes.ensures.answered

pub returns-clause-kept : goal.returns-clause-kept
returns-clause-kept g c =
    subst (λ z. ∥ Grows z (g.W.Write.contents c.into_writer-writer.result.writer) ∥₁) (sym c.requires)
    c.into_writer-writer.result.grows
