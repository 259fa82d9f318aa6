-- For `contents::generalized_time::are_clearly_canonical`: what it returns is right.
use Rattle.std.proofs.Common.{◌≡◌, ◌≢◌, ◌-◌, get_or, length, arith}
use Rattle.std.proofs.lemmas.Bool.Decides.{nat_tests}
use Rattle.std.proofs.lemmas.Grind.{common_steps}
use Rattle.asn1_leaves.proofs.CanonicalTimes.{GeneralizedTimeContents-with_fraction}
use Rattle.asn1_leaves.proofs.contents.generalized_time.are_clearly_canonical.Goals as goal

pub returns-then-contents-eq46 : goal.returns-then-contents-eq46
returns-then-contents-eq46 c is_true m p =
    let contents = c.args.contents.now in
    let point : get_or contents 14 0 ≡ 46 = grind (arith, common_steps) in
    let last : get_or contents (length contents - 2) 0 ≢ 48 = grind (arith, common_steps, nat_tests) in
    GeneralizedTimeContents-with_fraction m contents p (omega (arith, c.if-size-lt17.false, c.if-size-eq15.false))
    (omega (arith, c.if-size-gt25.false)) point last
