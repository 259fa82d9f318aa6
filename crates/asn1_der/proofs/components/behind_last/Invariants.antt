-- For `components::behind_last`: what each turn of its loop keeps and what grows less, so that it ends.
use Rattle.std.proofs.Common.{◌≡◌, length}
use Rattle.asn1_der.specs.Components.{behind_last}
use Rattle.asn1_der.proofs.components.behind_last.Given as goal

-- what follows the first octet below 128 is that of the octets that are left
abbrev pub invariant-loop-rest : goal.invariant-loop-rest
invariant-loop-rest l = behind_last l.octets ≡ behind_last l.rest

abbrev pub decreases-loop-rest : goal.decreases-loop-rest
decreases-loop-rest l = length l.rest
