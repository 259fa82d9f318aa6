-- For `contents::generalized_time::fraction_octets`: what each turn of its loop keeps.
use Rattle.std.proofs.Common.{◌≡◌, ◌-◌, ◌*◌, ◌^◌, ◌++◌, ◌<◌, length, take}
use Rattle.asn1_leaves.specs.Contents.GeneralizedTime.{fraction_digits, tenth}
use Rattle.asn1_leaves.proofs.contents.generalized_time.fraction_octets.Given as goal

-- the digits so far and those of what is left are all digits
abbrev pub invariant-loop-count : goal.invariant-loop-count
invariant-loop-count l = record {
  size : length l.digits ≡ 9;
  all : take l.count l.digits ++ fraction_digits (9 - l.count) l.unit l.left ≡ fraction_digits 9 tenth l.nanosecond;
  unit : 0 < 9 - l.count → l.unit * 10 ≡ 10 ^ (9 - l.count);
  small : l.left < 10 ^ (9 - l.count);
}
