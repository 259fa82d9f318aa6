-- For `oid::short_contents`: what it returns is right (`short`, `others`).
use Rattle.std.proofs.Common.{arith}
use Rattle.std.proofs.lemmas.Grind.{common_steps}
use Rattle.asn1_leaves.proofs.oid.short_contents.Goals as goal

pub returns-in_err-size-clause-short : goal.returns-in_err-size-clause-short
returns-in_err-size-clause-short c = grind (arith, common_steps)

pub returns-in_err-size-clause-others : goal.returns-in_err-size-clause-others
returns-in_err-size-clause-others c = grind (arith, common_steps)

pub returns-then-size-gt24-clause-short : goal.returns-then-size-gt24-clause-short
returns-then-size-gt24-clause-short c = grind (arith, common_steps)

pub returns-then-size-gt24-clause-others : goal.returns-then-size-gt24-clause-others
returns-then-size-gt24-clause-others c = grind (arith, common_steps)

pub returns-clause-short : goal.returns-clause-short
returns-clause-short c = grind (arith, common_steps)

pub returns-clause-others : goal.returns-clause-others
returns-clause-others c = grind (arith, common_steps)
