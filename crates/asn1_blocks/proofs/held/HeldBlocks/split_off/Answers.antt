-- For `held::HeldBlocks::split_off`: what it returns is right (`kept`, `parted`).
use Rattle.std.proofs.Common.{arith}
use Rattle.std.proofs.lemmas.Grind.{common_steps}
use Rattle.asn1_blocks.proofs.held.HeldBlocks.split_off.Goals as goal

pub returns-in_err-blocks-clause-kept : goal.returns-in_err-blocks-clause-kept
returns-in_err-blocks-clause-kept c = grind (arith, common_steps)

pub returns-in_err-blocks-clause-parted : goal.returns-in_err-blocks-clause-parted
returns-in_err-blocks-clause-parted c = grind (arith, common_steps)

pub returns-clause-kept : goal.returns-clause-kept
returns-clause-kept c = grind (arith, common_steps)

pub returns-clause-parted : goal.returns-clause-parted
returns-clause-parted c = grind (arith, common_steps)
