-- For `Accounts::push_inside`: its loop begins with its invariant and keeps it.
use Rattle.dump_text.proofs.Accounts.push_inside.Goals as goal

pub loop-document-init : goal.loop-document-init
loop-document-init c = λ before. before

pub loop-document-preserved : goal.loop-document-preserved
loop-document-preserved c = λ before. c.in_ok-push.ensures (c.loop-document.invariant before)
