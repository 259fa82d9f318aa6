-- For `encodings::are_encodings`: what each turn of its loop keeps and what grows less, so that it ends.
use Rattle.std.proofs.Common.{◌+◌, ◌≤◌, length}
use Rattle.std.specs.Prelude.{◌↔◌}
use Rattle.asn1_der.specs.Departures.{AreEncodings}
use Rattle.asn1_der.proofs.encodings.are_encodings.Given as goal

-- all octets are encodings exactly if those that are left are, behind which no more are open than octets were passed
abbrev pub invariant-loop-encoding : goal.invariant-loop-encoding
invariant-loop-encoding l = record {
  same : AreEncodings 0 l.octets ↔ AreEncodings l.unended l.encodings.rest.now;
  room : l.unended + length l.encodings.rest.now ≤ length l.octets;
}

abbrev pub decreases-loop-encoding : goal.decreases-loop-encoding
decreases-loop-encoding l = length l.encodings.rest.now
