-- For `contents::generalized_time::nanoseconds`: what each turn of its loop keeps.
use Rattle.std.proofs.Common.{◌≡◌, ◌+◌, ◌*◌, ◌<◌, ◌≤◌, drop}
use Rattle.std.specs.Char.{is_ascii_digit}
use Rattle.std.specs.List.{list_all}
use Rattle.asn1_leaves.specs.Contents.GeneralizedTime.{fraction_number, tenth}
use Rattle.asn1_leaves.proofs.contents.generalized_time.nanoseconds.Given as goal

-- the digits that are left make up the rest of the number, and are digits where all are
abbrev pub invariant-loop-digit : goal.invariant-loop-digit
invariant-loop-digit l = record {
  sum : l.nanoseconds + fraction_number l.unit (drop l.digit-index l.digits) ≡ fraction_number tenth l.digits;
  digits : list_all is_ascii_digit (drop l.digit-index l.digits) ≡ list_all is_ascii_digit l.digits;
  small : l.nanoseconds < 1000000000;
  room : l.nanoseconds + 10 * l.unit ≤ 1000000000;
}
