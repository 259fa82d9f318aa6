-- For `Accounts::push_inside`: what each turn of its loop keeps.
use Rattle.std.proofs.Common.{string_bytes}
use Rattle.dump_text.specs.Shown.{AreLines}
use Rattle.dump_text.proofs.Accounts.push_inside.Given as goal

abbrev pub invariant-loop-document : goal.invariant-loop-document
invariant-loop-document l = AreLines (string_bytes l.fn.text) → AreLines (string_bytes l.text)
