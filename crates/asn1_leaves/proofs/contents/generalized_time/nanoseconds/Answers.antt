-- For `contents::generalized_time::nanoseconds`: what it returns is right (`digits`, `found`, `small`, `none`).
use Rattle.std.proofs.Common.{arith}
use Rattle.std.proofs.lemmas.Grind.{common_steps}
use Rattle.asn1_leaves.proofs.contents.generalized_time.nanoseconds.Goals as goal

pub returns-then-not-is_ascii_digit-clause-digits : goal.returns-then-not-is_ascii_digit-clause-digits
returns-then-not-is_ascii_digit-clause-digits c = grind (arith, common_steps)

pub returns-then-not-is_ascii_digit-clause-found : goal.returns-then-not-is_ascii_digit-clause-found
returns-then-not-is_ascii_digit-clause-found c = grind (arith, common_steps)

pub returns-then-not-is_ascii_digit-clause-small : goal.returns-then-not-is_ascii_digit-clause-small
returns-then-not-is_ascii_digit-clause-small c = grind (arith, common_steps)

pub returns-then-not-is_ascii_digit-clause-none : goal.returns-then-not-is_ascii_digit-clause-none
returns-then-not-is_ascii_digit-clause-none c = grind (arith, common_steps)

pub returns-clause-digits : goal.returns-clause-digits
returns-clause-digits c = grind (arith, common_steps)

pub returns-clause-found : goal.returns-clause-found
returns-clause-found c = grind (arith, common_steps)

pub returns-clause-small : goal.returns-clause-small
returns-clause-small c = grind (arith, common_steps)

pub returns-clause-none : goal.returns-clause-none
returns-clause-none c = grind (arith, common_steps)
