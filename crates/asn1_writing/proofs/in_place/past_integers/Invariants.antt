-- For `in_place::past_integers`: what each turn of its loop keeps and what grows less, so that it ends.
use Rattle.std.proofs.Common.{[], length}
use Rattle.asn1_writing.specs.Inner.InPlace.{LeavesBoth}
use Rattle.asn1_writing.proofs.in_place.past_integers.Given as goal

abbrev pub invariant-integers : goal.invariant-integers
invariant-integers l = LeavesBoth l.octets [] l.rest

abbrev pub decreases-integers : goal.decreases-integers
decreases-integers l = length l.rest
