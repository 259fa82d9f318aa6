-- For `block::end_of`: what each turn of its loop keeps and what grows less, so that it ends.
use Rattle.dump_walk.proofs.ByOffset.{WentOn}
use Rattle.dump_walk.specs.Steps.{to_go}
use Rattle.dump_walk.proofs.block.end_of.Given as goal

-- the walk went on inside the element
abbrev pub invariant-loop-piece : goal.invariant-loop-piece
invariant-loop-piece l = WentOn l.fn.walk l.walk l.depth

abbrev pub decreases-loop-piece : goal.decreases-loop-piece
decreases-loop-piece l = to_go l.walk.cursor
