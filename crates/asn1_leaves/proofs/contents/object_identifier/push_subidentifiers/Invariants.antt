-- For `contents::object_identifier::push_subidentifiers`: what each turn of its loop keeps and what grows less, so that
-- it ends.
use Rattle.std.proofs.Common.{◌≡◌, ◌++◌, ◌≤◌, ◌-◌, List, ℕ, take, drop, length}
use Rattle.asn1_leaves.specs.Contents.ObjectIdentifier.{Subidentifiers}
use Rattle.asn1_leaves.proofs.contents.object_identifier.push_subidentifiers.Given as goal

-- the numbers of the octets before the index were pushed; where the octets that are left are no subidentifiers, neither
-- are all octets
abbrev pub invariant-loop-index : goal.invariant-loop-index
invariant-loop-index l =
    (l.index ≤ length l.octets)
    × ((ns : List ℕ) × (l.components.items ≡ l.fn.components.items ++ ns) × Subidentifiers ns (take l.index l.octets))
    × (((ns : List ℕ) → Subidentifiers ns (drop l.index l.octets) → ⊥) → (ns : List ℕ) → Subidentifiers ns l.octets → ⊥)

abbrev pub decreases-loop-index : goal.decreases-loop-index
decreases-loop-index l = length l.octets - l.index
