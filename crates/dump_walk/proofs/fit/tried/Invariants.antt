-- For `fit::tried`: what grows less, so that it ends.
use Rattle.dump_walk.specs.Steps.{to_go}
use Rattle.dump_walk.proofs.fit.tried.Given as goal

abbrev pub decreases-loop-left : goal.decreases-loop-left
decreases-loop-left l = to_go l.cursor
