-- For `input::number_fits`: a number beyond the octets that follow does not fit.
use Rattle.std.proofs.Common.{◌≡◌, ◌≤◌, ◌+◌, ◌*◌, drop, get_or, sym, ap, suc, subst, ◌∙◌}
use Rattle.std.proofs.Math.Seq.{drop-cons}
use Rattle.der_forms.specs.Known.{with_digits}
use Rattle.der_forms.proofs.Numbers.{le-with_digits, number_fits-beyond}
use Rattle.der_forms.proofs.input.number_fits.Goals as goal

pub returns-then-number-rest : goal.returns-then-number-rest
returns-then-number-rest c =
    let digits = c.in-Some.digits.now in
    let rest = c.in-Some.rest.now in
    let octets = c.args.octets.now in
    let i = c.loop-digit.digit-index in
    let number = 256 * c.loop-digit.number + c.from.result in
    let same : with_digits (256 * c.loop-digit.number + get_or digits i 0) (drop (suc i) digits)
    ≡ with_digits 0 digits =
    ap (with_digits c.loop-digit.number) (sym (drop-cons digits i 0 c.loop-digit-test.true))
    ∙ c.loop-digit.invariant.same in
    let more : number ≤ with_digits 0 digits =
    rw c.from.ensures (subst (λ z. 256 * c.loop-digit.number + get_or digits i 0 ≤ z) same
    (le-with_digits (256 * c.loop-digit.number + get_or digits i 0) (drop (suc i) digits))) in
    let (_, is_digits, is_rest, _, _) = c.in-Some.ensures.cases in
    number_fits-beyond c.args.count number octets digits rest is_digits is_rest c.if-number-rest.true more
