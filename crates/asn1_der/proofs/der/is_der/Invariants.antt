-- For `der::is_der`: what each turn of its loop keeps and what grows less, so that it ends.
use Rattle.std.specs.Prelude.{◌↔◌, length}
use Rattle.asn1_blocks.specs.Inner.ReaderSteps.{work_left}
use Rattle.asn1_der.specs.Steps.{AreDer}
use Rattle.asn1_der.specs.Turns.{IsLeftDer, HasEnds}
use Rattle.asn1_der.proofs.der.is_der.Given as goal

-- the octets are DER exactly if those that are left are
abbrev pub invariant-turns : goal.invariant-turns
invariant-turns l = record { placed : HasEnds l.octets l.place; same : AreDer l.octets ↔ IsLeftDer l.octets l.place }

abbrev pub decreases-turns : goal.decreases-turns
decreases-turns l = work_left (length l.octets) l.place.index l.place.outer.items
