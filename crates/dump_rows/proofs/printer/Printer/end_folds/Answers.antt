-- For `printer::Printer::end_folds`: what it returns is right.
use Rattle.std.proofs.Common.{◌≡◌, [], refl}
use Rattle.std.proofs.lemmas.Result.{on_ok_weaker}
use Rattle.dump_rows.proofs.Printed.{IsPrinted-blank}
use Rattle.dump_rows.proofs.printer.Printer.end_folds.Goals as goal

pub returns : goal.returns
returns g c =
    on_ok_weaker c.write.result
    (λ w. IsPrinted-blank g.W.Write.contents (λ text. text ≡ []) c.args.self.now c.write.new.self refl
    (record { look = w.look; width = w.width; parts = w.parts; wrote = w.wrote; is = w.is })) c.write.ensures
