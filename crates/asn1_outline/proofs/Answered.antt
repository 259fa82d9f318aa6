-- Entries of a document are those of whichever trees it encodes, and it has no first fault, for
-- `outline::Outline::from_der`.
use Rattle.std.proofs.Common.{ℕ, ◌<◌, ◌^◌, List, length, subst}
use Rattle.asn1_headers.specs.Fault.{DecodeFault}
use Rattle.asn1_blocks.specs.Grammar.{FirstFaultAt, IsDocument}
use Rattle.asn1_blocks.specs.Tree.{Trees}
use Rattle.asn1_blocks.proofs.OneReading.{EncodesAll-unique}
use Rattle.asn1_blocks.proofs.Readings.{IsDocument-no_fault}
use Rattle.asn1_outline.specs.Entries.{AreEntriesOf, IsOutline}
use Rattle.asn1_outline.specs.declared.entry.Entry.{Entry}

-- entries of a document are of its trees, whichever trees it is read as
pub AreEntriesOf-any_trees : (octets : List ℕ) (es : List Entry) (bs : Trees ℕ) → IsOutline octets es →
    IsDocument octets bs →
    AreEntriesOf octets bs es
AreEntriesOf-any_trees octets es bs (cs, d, are) e =
    subst (λ z. AreEntriesOf octets z es) (EncodesAll-unique 0 octets cs bs d.blocks e.blocks) are

-- octets with entries of a document have no first fault
pub IsOutline-no_fault : (octets : List ℕ) (es : List Entry) (fault : DecodeFault) (o : ℕ) →
    length octets < 2 ^ 64 →
    IsOutline octets es
    → FirstFaultAt octets fault o → ⊥
IsOutline-no_fault octets es fault o small (bs, d, are) p = IsDocument-no_fault octets bs fault small d (o, p)
