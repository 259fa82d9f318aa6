-- For `in_place::are_clearly_canonical_in_place`: what each turn of its loop keeps and what
-- grows less, so that it ends.
use Rattle.std.proofs.Common.{ℕ, ◌+◌, List, Bor, length}
use Rattle.std.specs.Prelude.{All}
use Rattle.std.specs.List.{sum_by}
use Rattle.asn1_writing.specs.Inner.InPlace.{AreCanonical}
use Rattle.asn1_writing.proofs.in_place.are_clearly_canonical_in_place.Given as goal

-- the octets are canonical if those that are left are: the rest, and all that wait
abbrev pub invariant-headers : goal.invariant-headers
invariant-headers l = AreCanonical l.rest → All (λ (x : Bor (List ℕ)). AreCanonical x.now) l.outer.items →
    AreCanonical l.i

-- how many octets are left, with one more for each slice that waits, for the turn that takes it up
abbrev pub decreases-headers : goal.decreases-headers
decreases-headers l = length l.rest + sum_by (λ (x : Bor (List ℕ)). 1 + length x.now) l.outer.items
