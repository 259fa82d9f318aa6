-- For `leaf_size::subidentifiers_size`: what each turn of its loop keeps.
use Rattle.std.proofs.Common.{◌≡◌, ◌+◌, ◌≤◌, drop, true}
use Rattle.asn1_writing.proofs.LeafSizes.{left_of}
use Rattle.asn1_writing.proofs.leaf_size.subidentifiers_size.Given as goal

-- the size so far, and what is left of the octets behind
abbrev pub invariant-loop-octet : goal.invariant-loop-octet
invariant-loop-octet l =
    (l.size + left_of l.begins (drop l.octet-index l.octets) ≡ left_of true l.octets) × (l.size ≤ l.octet-index)
