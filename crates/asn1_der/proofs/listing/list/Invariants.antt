-- For `listing::list`: what each turn of its loop keeps and what grows less, so that it ends.
use Rattle.std.specs.Prelude.{List, length}
use Rattle.asn1_blocks.specs.Inner.ReaderSteps.{work_left}
use Rattle.asn1_der.specs.Departures.{Lists}
use Rattle.asn1_der.specs.Listing.{HasExtents, ListsAll}
use Rattle.asn1_der.specs.declared.rule.Departure.{Departure}
use Rattle.asn1_der.proofs.listing.list.Given as goal

-- the departures found so far, with those of what is left, are all
abbrev pub invariant-turns : goal.invariant-turns
invariant-turns l = record {
  placed : HasExtents l.octets l.place l.found.items;
  all : (all : List Departure) → ListsAll l.octets l.place l.found.items all → Lists 0 0 l.octets all;
}

abbrev pub decreases-turns : goal.decreases-turns
decreases-turns l = work_left (length l.octets) l.place.index l.place.outer.items
