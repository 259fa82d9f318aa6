-- For `contents::object_identifier::read`: what it returns is right (`found`, `refused`).
use Rattle.std.proofs.Common.{arith}
use Rattle.std.proofs.lemmas.Grind.{common_steps}
use Rattle.asn1_leaves.proofs.contents.object_identifier.read.Goals as goal

pub returns-in_default-clause-found : goal.returns-in_default-clause-found
returns-in_default-clause-found c = grind (arith, common_steps)

pub returns-in_default-clause-refused : goal.returns-in_default-clause-refused
returns-in_default-clause-refused c = grind (arith, common_steps)

pub returns-in_err-components-clause-found : goal.returns-in_err-components-clause-found
returns-in_err-components-clause-found c = grind (arith, common_steps)

pub returns-in_err-components-clause-refused : goal.returns-in_err-components-clause-refused
returns-in_err-components-clause-refused c = grind (arith, common_steps)

pub returns-in_err-from_u64-clause-found : goal.returns-in_err-from_u64-clause-found
returns-in_err-from_u64-clause-found c = grind (arith, common_steps)

pub returns-in_err-from_u64-clause-refused : goal.returns-in_err-from_u64-clause-refused
returns-in_err-from_u64-clause-refused c = grind (arith, common_steps)

pub returns-in_err-push-clause-found : goal.returns-in_err-push-clause-found
returns-in_err-push-clause-found c = grind (arith, common_steps)

pub returns-in_err-push-clause-refused : goal.returns-in_err-push-clause-refused
returns-in_err-push-clause-refused c = grind (arith, common_steps)

pub returns-in_err-from_u64-2-clause-found : goal.returns-in_err-from_u64-2-clause-found
returns-in_err-from_u64-2-clause-found c = grind (arith, common_steps)

pub returns-in_err-from_u64-2-clause-refused : goal.returns-in_err-from_u64-2-clause-refused
returns-in_err-from_u64-2-clause-refused c = grind (arith, common_steps)

pub returns-in_err-push-2-clause-found : goal.returns-in_err-push-2-clause-found
returns-in_err-push-2-clause-found c = grind (arith, common_steps)

pub returns-in_err-push-2-clause-refused : goal.returns-in_err-push-2-clause-refused
returns-in_err-push-2-clause-refused c = grind (arith, common_steps)

pub returns-in_err-push_subidentifiers-clause-found : goal.returns-in_err-push_subidentifiers-clause-found
returns-in_err-push_subidentifiers-clause-found c = grind (arith, common_steps)

pub returns-in_err-push_subidentifiers-clause-refused : goal.returns-in_err-push_subidentifiers-clause-refused
returns-in_err-push_subidentifiers-clause-refused c = grind (arith, common_steps)

pub returns-clause-found : goal.returns-clause-found
returns-clause-found c = grind (arith, common_steps)

pub returns-clause-refused : goal.returns-clause-refused
returns-clause-refused c = grind (arith, common_steps)
