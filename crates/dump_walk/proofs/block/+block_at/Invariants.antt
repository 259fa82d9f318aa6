-- For `block::block_at`: what each turn of its loop keeps and what grows less, so that it ends.
use Rattle.dump_walk.proofs.ByOffset.{SearchedTo}
use Rattle.dump_walk.specs.Steps.{to_go}
use Rattle.dump_walk.proofs.block.+block_at.Given as goal

abbrev pub decreases-block_at : goal.decreases-block_at
decreases-block_at l = l.place.documents

-- no line that the walk has passed stands at the offset
abbrev pub invariant-loop-walk : goal.invariant-loop-walk
invariant-loop-walk l = SearchedTo l.fn.place l.octets l.offset l.walk

abbrev pub decreases-loop-walk : goal.decreases-loop-walk
decreases-loop-walk l = to_go l.walk.cursor
