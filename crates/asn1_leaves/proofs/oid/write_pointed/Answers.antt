-- For `oid::write_pointed`: what it returns is right.
use Rattle.std.proofs.Common.{arith}
use Rattle.std.proofs.lemmas.Grind.{common_steps}
use Rattle.asn1_leaves.proofs.oid.write_pointed.Goals as goal

pub returns-in_err-write : goal.returns-in_err-write
returns-in_err-write g c = grind (arith, common_steps)

pub returns : goal.returns
returns g c = grind (arith, common_steps)
