-- For `oid::OID::from_text`: what each turn of its loop keeps.
use Rattle.std.proofs.Common.{◌≡◌, map}
use Rattle.asn1_numbers.specs.Decimal.{natural_numeral}
use Rattle.asn1_leaves.proofs.oid.OID.from_text.Given as goal

abbrev pub invariant-loop-numeral : goal.invariant-loop-numeral
invariant-loop-numeral l = map natural_numeral l.components.items ≡ map (λ x. x.now) l.yielded
