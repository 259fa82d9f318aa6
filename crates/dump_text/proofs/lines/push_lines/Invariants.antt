-- For `lines::push_lines`: what each turn of its loop keeps.
use Rattle.std.proofs.Common.{string_bytes}
use Rattle.dump_text.specs.Shown.{AreLines}
use Rattle.dump_text.proofs.lines.push_lines.Given as goal

abbrev pub invariant-loop-line : goal.invariant-loop-line
invariant-loop-line l = AreLines (string_bytes l.fn.text) → AreLines (string_bytes l.text)
