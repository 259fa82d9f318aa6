-- For `string::write_chars`: what each turn of its loop keeps.
use Rattle.der_io.specs.Output.{IsWritten}
use Rattle.dump_json.specs.Grammar.{AreChars}
use Rattle.dump_json.proofs.string.write_chars.Given as goal

abbrev pub invariant-loop-c : goal.invariant-loop-c
invariant-loop-c g l = IsWritten AreChars (g.W.Write.contents l.fn.out) (g.W.Write.contents l.out)
