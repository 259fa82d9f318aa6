-- For `string::write_digits`: what each turn of its loops keeps and what grows less, so that the first ends.
use Rattle.std.proofs.Common.{length}
use Rattle.der_io.specs.Output.{IsWritten}
use Rattle.dump_json.specs.Grammar.{AreChars}
use Rattle.dump_json.proofs.string.write_digits.Given as goal

abbrev pub invariant-loop-rest : goal.invariant-loop-rest
invariant-loop-rest g l = IsWritten AreChars (g.W.Write.contents l.fn.out) (g.W.Write.contents l.out)

abbrev pub decreases-loop-rest : goal.decreases-loop-rest
decreases-loop-rest g l = length l.rest

abbrev pub invariant-loop-b : goal.invariant-loop-b
invariant-loop-b g l = IsWritten AreChars (g.W.Write.contents l.fn.out) (g.W.Write.contents l.out)
