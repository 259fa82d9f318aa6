-- For `document::push_problems`: what each turn of its loop keeps.
use Rattle.dump_rows.specs.Printing.{PrintsText}
use Rattle.dump_lines.proofs.document.push_problems.Given as goal

abbrev pub invariant-loop-mark : goal.invariant-loop-mark
invariant-loop-mark g l = PrintsText g.W.Write.contents l.fn.printer l.printer
