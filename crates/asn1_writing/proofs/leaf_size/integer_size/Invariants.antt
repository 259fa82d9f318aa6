-- For `leaf_size::integer_size`: what each turn of its loop keeps and what grows less, so that it ends.
use Rattle.std.proofs.Common.{◌≡◌, ◌<◌, ◌-◌, length, drop}
use Rattle.asn1_numbers.specs.TwosComplement.{signed_number}
use Rattle.asn1_writing.proofs.leaf_size.integer_size.Given as goal

abbrev pub invariant-loop-needless : goal.invariant-loop-needless
invariant-loop-needless l =
    (l.needless < length l.contents) × (signed_number (drop l.needless l.contents) ≡ signed_number l.contents)

abbrev pub decreases-loop-needless : goal.decreases-loop-needless
decreases-loop-needless l = length l.contents - l.needless
