-- For `lines::push_lines`: its loop begins with its invariant and keeps it.
use Rattle.dump_text.proofs.lines.push_lines.Goals as goal

pub loop-line-init : goal.loop-line-init
loop-line-init c = c.in_ok-push_line.ensures

pub loop-line-preserved : goal.loop-line-preserved
loop-line-preserved c = λ before. c.in_ok-push_line-2.ensures (c.loop-line.invariant before)
