-- For `sources::answer_all`: what each turn of its loop keeps.
use Rattle.std.proofs.Common.{◌≡◌, drop, false, map, take, true}
use Rattle.dump_inputs.specs.Inputs.{AreReadToEnds, IsDone, IsInputText, is_extract}
use Rattle.dump_inputs.specs.Texts.{AreTexts}
use Rattle.dump_inputs.proofs.sources.answer_all.Given as goal

-- the sources before this one are answered, these are read, and the others are as they were
abbrev pub invariant-loop-source : goal.invariant-loop-source
invariant-loop-source g l = record {
  answered : IsDone l.fn.task (AreTexts (IsInputText l.fn.task)
      (map (λ source. g.R.Read.remaining source.reader) (take l.source-index l.fn.sources)) l.outcomes.items)
      (g.W.Write.contents l.fn.printer.out) (g.W.Write.contents l.printer.out);
  begun : is_extract l.fn.task ≡ true → l.is_begun ≡ false;
  read : AreReadToEnds l.outcomes.items
      (map (λ source. g.R.Read.remaining source.reader) (take l.source-index l.sources));
  left : drop l.source-index l.sources ≡ drop l.source-index l.fn.sources;
}
