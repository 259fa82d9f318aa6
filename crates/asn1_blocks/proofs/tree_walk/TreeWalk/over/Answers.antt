-- For `tree_walk::TreeWalk::over`: what it returns is right.
use Rattle.std.proofs.Common.{arith}
use Rattle.std.proofs.lemmas.Grind.{common_steps}
use Rattle.asn1_blocks.proofs.tree_walk.TreeWalk.over.Goals as goal

pub returns : goal.returns
returns c = grind (arith, common_steps)
