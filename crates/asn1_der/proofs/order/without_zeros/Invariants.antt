-- For `order::without_zeros`: what each turn of its loop keeps and what grows less, so that it ends.
use Rattle.std.proofs.Common.{ℕ, length}
use Rattle.asn1_numbers.specs.Base128.{IsBase128}
use Rattle.asn1_numbers.specs.Octets.{AreOctets}
use Rattle.asn1_der.proofs.order.without_zeros.Given as goal

-- the octets that are left are of the same number
abbrev pub invariant-loop-rest : goal.invariant-loop-rest
invariant-loop-rest l = record { fit : AreOctets l.rest; same : (n : ℕ) → IsBase128 l.octets n → IsBase128 l.rest n }

abbrev pub decreases-loop-rest : goal.decreases-loop-rest
decreases-loop-rest l = length l.rest
