-- For `printer::Printer::begin_section`: what it returns is right.
use Rattle.std.proofs.lemmas.Result.{on_ok_weaker}
use Rattle.dump_rows.proofs.Printed.{PrintsText-blank}
use Rattle.dump_rows.proofs.printer.Printer.begin_section.Goals as goal

pub returns : goal.returns
returns g c =
    on_ok_weaker c.write.result (PrintsText-blank g.W.Write.contents c.args.self.now c.write.new.self) c.write.ensures
