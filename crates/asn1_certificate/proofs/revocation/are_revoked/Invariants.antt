-- For `revocation::are_revoked`: what each turn of its loop keeps and what grows less, so that it ends.
use Rattle.std.proofs.Common.{◌≡◌, length}
use Rattle.asn1_outline.specs.Outlines.{octets_in}
use Rattle.asn1_outline.specs.Structure.{IsStructure, Nodes}
use Rattle.asn1_certificate.specs.Sequences.{each}
use Rattle.asn1_certificate.specs.Reading.{left, trees_at}
use Rattle.asn1_certificate.specs.Types.{is_revoked_certificate}
use Rattle.asn1_certificate.proofs.revocation.are_revoked.Given as goal

-- all are of the type if those that are left are
abbrev pub invariant-loop-index : goal.invariant-loop-index
invariant-loop-index l = (ns : Nodes) → IsStructure (octets_in l.outline) ns →
    each is_revoked_certificate (trees_at ns (left l.initial.items))
    ≡ each is_revoked_certificate (trees_at ns (left l.items))

abbrev pub decreases-loop-index : goal.decreases-loop-index
decreases-loop-index l = length (left l.items)
