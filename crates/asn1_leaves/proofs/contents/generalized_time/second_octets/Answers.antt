-- For `contents::generalized_time::second_octets`: what it returns is right.
use Rattle.std.proofs.Common.{arith}
use Rattle.std.proofs.lemmas.Grind.{common_steps}
use Rattle.asn1_leaves.proofs.contents.generalized_time.second_octets.Goals as goal

pub returns : goal.returns
returns c = grind (arith, common_steps)
