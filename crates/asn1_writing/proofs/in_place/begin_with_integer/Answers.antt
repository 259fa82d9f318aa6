-- For `in_place::begin_with_integer`: what it returns is right (`canonical`).
use Rattle.std.proofs.Common.{◌≡◌, ◌≢◌, ◌<◌, get_or, length, arith}
use Rattle.std.proofs.lemmas.Bool.Decides.{nat_tests}
use Rattle.asn1_numbers.proofs.SignedNumbers.{sign_before}
use Rattle.asn1_writing.proofs.FrequentEncodings.{AreCanonicalContents-integer}
use Rattle.asn1_writing.proofs.in_place.begin_with_integer.Goals as goal

pub returns-then-size-eq1-clause-canonical : goal.returns-then-size-eq1-clause-canonical
returns-then-size-eq1-clause-canonical c is_true =
    let x = c.args.octets.now in
    let one : c.args.size ≡ 1 = omega (arith, c.if-size-eq1.true) in
    let some : 0 < length x = grind (arith, nat_tests, is_true) in
    AreCanonicalContents-integer x c.args.size (λ k. omega (arith, c.type_inv.octets k)) (omega (arith, one)) some
    (λ two. absurd (omega (arith, one, two)))

pub returns-then-second-lt128-clause-canonical : goal.returns-then-second-lt128-clause-canonical
returns-then-second-lt128-clause-canonical c is_true =
    let x = c.args.octets.now in
    let needed : get_or x 0 0 ≢ sign_before (get_or x 1 0) = λ e. grind (arith, nat_tests, e, is_true) in
    AreCanonicalContents-integer x c.args.size (λ k. omega (arith, c.type_inv.octets k))
    (omega (arith, c.if-size-lt2.false))
    (omega (arith, c.in-len2-up.len_at_least)) (λ _. needed)

pub returns-else-second-lt128-clause-canonical : goal.returns-else-second-lt128-clause-canonical
returns-else-second-lt128-clause-canonical c is_true =
    let x = c.args.octets.now in
    let needed : get_or x 0 0 ≢ sign_before (get_or x 1 0) = λ e. grind (arith, nat_tests, e, is_true) in
    AreCanonicalContents-integer x c.args.size (λ k. omega (arith, c.type_inv.octets k))
    (omega (arith, c.if-size-lt2.false))
    (omega (arith, c.in-len2-up.len_at_least)) (λ _. needed)
