-- For `real::digit_count`: what each turn of its loop keeps.
use Rattle.std.proofs.Common.{◌≡◌, ◌+◌, drop}
use Rattle.asn1_der.specs.Real.{digit_count}
use Rattle.asn1_der.proofs.real.digit_count.Given as goal

-- the digits that were passed are counted, and those that are left come in addition
abbrev pub invariant-loop-c : goal.invariant-loop-c
invariant-loop-c l = record {
  passed : l.count ≡ l.c-index;
  left : digit_count l.text ≡ l.c-index + digit_count (drop l.c-index l.text);
}
