-- For `times::are_neighbours`: what each turn of its loop keeps.
use Rattle.std.proofs.Common.{◌≡◌, drop}
use Rattle.asn1_der.specs.Times.{are_neighbours}
use Rattle.asn1_der.proofs.times.are_neighbours.Given as goal

-- all may stand behind one another exactly if those that are left may, behind the last of the others
abbrev pub invariant-loop-next : goal.invariant-loop-next
invariant-loop-next l = are_neighbours l.before l.text ≡ are_neighbours l.last (drop l.next-index l.text)
