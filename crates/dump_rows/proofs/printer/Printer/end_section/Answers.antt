-- For `printer::Printer::end_section`: its loop keeps its invariant, and what it returns is right.
use Rattle.std.proofs.lemmas.Result.{on_ok_weaker}
use Rattle.dump_rows.proofs.Printed.{PrintsText-append, PrintsText-blank}
use Rattle.dump_rows.proofs.printer.Printer.end_section.Goals as goal

pub loop-part-init : goal.loop-part-init
loop-part-init g c = PrintsText-blank g.W.Write.contents c.args.self.now c.write.new.self c.in_ok-write.ensures

pub loop-part-preserved : goal.loop-part-preserved
loop-part-preserved g c =
    PrintsText-append g.W.Write.contents c.args.self.now c.loop-part.self c.write-in-loop-part.new.self
    c.loop-part.invariant
    (PrintsText-blank g.W.Write.contents c.loop-part.self c.write-in-loop-part.new.self c.in_ok-write-2.ensures)

pub returns : goal.returns
returns g c =
    on_ok_weaker c.write-2.result
    (λ w. PrintsText-append g.W.Write.contents c.args.self.now c.loop-part.self c.write-2.new.self
    c.loop-part.invariant (PrintsText-blank g.W.Write.contents c.loop-part.self c.write-2.new.self w)) c.write-2.ensures
