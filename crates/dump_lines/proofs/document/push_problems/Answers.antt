-- For `document::push_problems`: its loop keeps its invariant, and what it returns is right.
use Rattle.std.proofs.lemmas.Result.{on_ok_weaker}
use Rattle.dump_rows.proofs.Printed.{IsPrinted-nil, PrintsText-append}
use Rattle.dump_lines.proofs.document.push_problems.Goals as goal

pub loop-mark-init : goal.loop-mark-init
loop-mark-init g c = IsPrinted-nil g.W.Write.contents (λ text. Unit {0}) c.args.printer.now tt

pub loop-mark-preserved : goal.loop-mark-preserved
loop-mark-preserved g c =
    PrintsText-append g.W.Write.contents c.args.printer.now c.loop-mark.printer c.push_broken.new.self
    c.loop-mark.invariant c.in_ok-push_broken.ensures

pub returns-in-Some : goal.returns-in-Some
returns-in-Some g c =
    on_ok_weaker c.push_fault.result
    (λ last. PrintsText-append g.W.Write.contents c.args.printer.now c.loop-mark.printer c.push_fault.new.self
    c.loop-mark.invariant last) c.push_fault.ensures
