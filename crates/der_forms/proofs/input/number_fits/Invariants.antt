-- For `input::number_fits`: what each turn of its loop keeps.
use Rattle.std.proofs.Common.{◌≡◌, ◌≤◌, drop, length}
use Rattle.der_forms.specs.Known.{with_digits}
use Rattle.der_forms.proofs.input.number_fits.Given as goal

-- the number, with the digits that are left, is that of all digits, and no more than octets follow
abbrev pub invariant-loop-digit : goal.invariant-loop-digit
invariant-loop-digit l = record {
  same : with_digits l.number (drop l.digit-index l.digits) ≡ with_digits 0 l.digits;
  few : l.number ≤ length l.rest;
}
