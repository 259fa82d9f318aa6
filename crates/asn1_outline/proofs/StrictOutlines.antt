-- A result that is the outline of a canonical document, or a strict fault at its place, is the only one, for
-- `strict::check_blocks` and `outline::Outline::from_der_strict`.
use Rattle.std.proofs.Common.{◌≡◌, ℕ, ◌<◌, ◌^◌, List, Ok, Err, Result, length, inl, inr, ap, subst, ◌∙◌}
use Rattle.std.specs.Prelude.{IfErr, IfOk, IsErrAnd, MatchResult}
use Rattle.asn1_headers.specs.Fault.{DecodeFault, fault_of}
use Rattle.asn1_headers.specs.Reading.{OutOfMemoryOrAt}
use Rattle.asn1_headers.specs.declared.error.ASN1DecodeErr.TheVariants.{OutOfMemory}
use Rattle.asn1_headers.specs.declared.error.LocatedErr.{LocatedErr}
use Rattle.asn1_blocks.specs.Grammar.{IsDocument}
use Rattle.asn1_blocks.specs.Tree.{Trees}
use Rattle.asn1_blocks.proofs.OneReading.{EncodesAll-unique}
use Rattle.asn1_outline.specs.Entries.{AreEntriesOf}
use Rattle.asn1_outline.specs.Outlines.{entries_in}
use Rattle.asn1_outline.specs.declared.outline.Outline.{Outline}
use Rattle.asn1_writing.specs.Canonical.{all_canonical}
use Rattle.asn1_writing.specs.ReadBack.{CanonicalDocument}
use Rattle.asn1_writing.specs.Strict.{StrictFaultAt}
use Rattle.asn1_writing.proofs.CanonicalDocuments.{CanonicalDocument-no_fault, StrictFault-at, StrictFaultAt-unique}

-- the outline is that of a canonical document
abbrev pub IsStrictOutline : List ℕ → Outline → Type 0
IsStrictOutline i outline = (bs : Trees ℕ) × CanonicalDocument i bs × AreEntriesOf i bs (entries_in outline)

-- a strict outline of a canonical document has its entries, unless memory runs out
pub CanonicalDocument-outline_accepted :
    (i : List ℕ) (r : Result Outline LocatedErr) → length i < 2 ^ 64 → IfOk r (IsStrictOutline i) →
    IfErr r (OutOfMemoryOrAt (StrictFaultAt i)) → (bs : Trees ℕ) → CanonicalDocument i bs →
    MatchResult r (λ outline. AreEntriesOf i bs (entries_in outline)) (λ e. e.error ≡ OutOfMemory)
CanonicalDocument-outline_accepted i (Ok outline) small (cs, d, are) err bs e =
    subst (λ z. AreEntriesOf i z (entries_in outline)) (EncodesAll-unique 0 i cs bs d.0.blocks e.0.blocks) are
CanonicalDocument-outline_accepted i (Err e) small ok (inl memory) bs d = memory
CanonicalDocument-outline_accepted i (Err e) small ok (inr fault) bs d =
    absurd (CanonicalDocument-no_fault i bs (fault_of e.error) small d
    (StrictFault-at i (fault_of e.error) e.offset fault))

-- a strict outline of octets with a strict fault is refused for it, at its place
pub StrictFaultAt-outline_refused :
    (i : List ℕ) (r : Result Outline LocatedErr) → length i < 2 ^ 64 → IfOk r (IsStrictOutline i) →
    IfErr r (OutOfMemoryOrAt (StrictFaultAt i)) → (fault : DecodeFault) (o : ℕ) → StrictFaultAt i fault o →
    IsErrAnd r (OutOfMemoryOrAt (λ found place. (found ≡ fault) × (place ≡ o)))
StrictFaultAt-outline_refused i (Ok outline) small (cs, d, are) err fault o f =
    CanonicalDocument-no_fault i cs fault small d (StrictFault-at i fault o f)
StrictFaultAt-outline_refused i (Err e) small ok (inl memory) fault o f = inl memory
StrictFaultAt-outline_refused i (Err e) small ok (inr first) fault o f =
    inr (StrictFaultAt-unique i (fault_of e.error) fault e.offset o small first f)

-- a canonical document is the canonical octets of whichever trees it is read as
pub all_canonical-only_reading : (i : List ℕ) (bs cs : Trees ℕ) → CanonicalDocument i bs → IsDocument i cs →
    i ≡ all_canonical cs
all_canonical-only_reading i bs cs d e = d.1 ∙ ap all_canonical (EncodesAll-unique 0 i bs cs d.0.blocks e.blocks)
