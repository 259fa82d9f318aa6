-- For `printer::Printer::end_section`: what each turn of its loop keeps.
use Rattle.dump_rows.specs.Printing.{PrintsText}
use Rattle.dump_rows.proofs.printer.Printer.end_section.Given as goal

-- the octets before the part were printed
abbrev pub invariant-loop-part : goal.invariant-loop-part
invariant-loop-part g l = PrintsText g.W.Write.contents l.fn.self l.self
