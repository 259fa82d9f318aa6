-- For `document::zeros_behind`: what grows less at each turn of its loop, so that it ends.
use Rattle.std.proofs.Common.{length}
use Rattle.dump_inputs.proofs.document.zeros_behind.Given as goal

abbrev pub decreases-loop-rest : goal.decreases-loop-rest
decreases-loop-rest l = length l.rest
