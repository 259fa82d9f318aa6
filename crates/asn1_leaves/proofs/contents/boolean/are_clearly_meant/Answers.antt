-- For `contents::boolean::are_clearly_meant`: what it returns is right.
use Rattle.std.proofs.Common.{arith}
use Rattle.asn1_leaves.proofs.Leaves.Boolean.{BooleanContents-one}
use Rattle.asn1_leaves.proofs.contents.boolean.are_clearly_meant.Goals as goal

pub returns : goal.returns
returns c is_true = BooleanContents-one c.args.contents.now (grind (arith, is_true))
