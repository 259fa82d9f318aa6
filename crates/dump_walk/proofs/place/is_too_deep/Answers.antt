-- For `place::is_too_deep`: what it returns is right.
use Rattle.std.proofs.Common.{rules}
use Rattle.dump_walk.proofs.place.is_too_deep.Goals as goal

pub returns-in-Some : goal.returns-in-Some
returns-in-Some c = search rules
