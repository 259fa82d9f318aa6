-- For `held::HeldBlocks::take_all`: what it returns is right (`all`, `none_left`).
use Rattle.std.proofs.Common.{arith}
use Rattle.std.proofs.lemmas.Grind.{common_steps}
use Rattle.asn1_blocks.proofs.held.HeldBlocks.take_all.Goals as goal

pub returns-clause-all : goal.returns-clause-all
returns-clause-all c = grind (arith, common_steps)

pub returns-clause-none_left : goal.returns-clause-none_left
returns-clause-none_left c = grind (arith, common_steps)
