-- For `members::write_members`: what each turn of its loop keeps.
use Rattle.der_io.specs.Output.{IsWritten}
use Rattle.dump_json.specs.Grammar.{IsOpenObject}
use Rattle.dump_json.specs.Lines.{Turns}
use Rattle.dump_json.proofs.members.write_members.Given as goal

abbrev pub invariant-loop-name : goal.invariant-loop-name
invariant-loop-name g l =
    IsWritten (Turns (IsOpenObject l.fn.is_later) (IsOpenObject l.has_some)) (g.W.Write.contents l.fn.out)
    (g.W.Write.contents l.out)
