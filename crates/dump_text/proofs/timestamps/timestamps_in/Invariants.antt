-- For `timestamps::timestamps_in`: what grows less in its loop, so that it ends.
use Rattle.std.proofs.Common.{length}
use Rattle.dump_text.proofs.timestamps.timestamps_in.Given as goal

abbrev pub decreases-loop-octets : goal.decreases-loop-octets
decreases-loop-octets l = length l.left
