-- For `contents::object_identifier::are_clearly_shortest`: what each turn of its loop keeps.
use Rattle.std.proofs.Common.{ℕ, ◌<◌, ◌≢◌, get_or}
use Rattle.asn1_leaves.proofs.contents.object_identifier.are_clearly_shortest.Given as goal

-- none of the octets so far is 80
abbrev pub invariant-loop-octet : goal.invariant-loop-octet
invariant-loop-octet l = (k : ℕ) → k < l.octet-index → get_or l.rest k 0 ≢ 128
