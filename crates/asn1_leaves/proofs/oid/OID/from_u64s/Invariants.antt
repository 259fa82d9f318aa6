-- For `oid::OID::from_u64s`: what each turn of its loop keeps.
use Rattle.std.proofs.Common.{◌≡◌, take}
use Rattle.asn1_leaves.proofs.oid.OID.from_u64s.Given as goal

abbrev pub invariant-loop-component : goal.invariant-loop-component
invariant-loop-component l = l.numbers.items ≡ take l.component-index l.components
