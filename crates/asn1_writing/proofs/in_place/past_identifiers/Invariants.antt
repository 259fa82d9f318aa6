-- For `in_place::past_identifiers`: what each turn of its loop keeps and what grows less, so that it ends.
use Rattle.std.proofs.Common.{[], length}
use Rattle.asn1_writing.specs.Inner.InPlace.{LeavesBoth}
use Rattle.asn1_writing.proofs.in_place.past_identifiers.Given as goal

abbrev pub invariant-identifiers : goal.invariant-identifiers
invariant-identifiers l = LeavesBoth l.octets [] l.rest

abbrev pub decreases-identifiers : goal.decreases-identifiers
decreases-identifiers l = length l.rest
