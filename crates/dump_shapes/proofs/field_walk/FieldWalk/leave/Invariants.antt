-- For `field_walk::FieldWalk::leave`: what grows less with each turn of its loop, so that it ends.
use Rattle.std.proofs.Common.{length}
use Rattle.dump_shapes.proofs.field_walk.FieldWalk.leave.Given as goal

abbrev pub decreases-loop-self : goal.decreases-loop-self
decreases-loop-self l = length l.self.around.items
