-- For `oid::copy_of`: what each turn of its loop keeps.
use Rattle.std.proofs.Common.{◌≡◌, take}
use Rattle.asn1_leaves.proofs.oid.copy_of.Given as goal

abbrev pub invariant-loop-number : goal.invariant-loop-number
invariant-loop-number l = l.copy.items ≡ take l.number-index l.numbers
