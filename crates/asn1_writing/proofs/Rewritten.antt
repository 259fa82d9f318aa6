-- What is written of a document that was read is read as its trees, normalized, for `laws::law_rewrite` and
-- `write::rewrite`.
use Rattle.std.proofs.Common.{◌≡◌, ℕ, ◌+◌, ◌<◌, ◌^◌, List, length, sym, ap, ◌∙◌, subst, arith, length-append, inl, inr, Result, Ok, Err, Vec, Global, IfOk, IfErr, IsErrAnd, MatchResult}
use Rattle.asn1_headers.specs.Fault.{DecodeFault, OutOfMemoryOr, fault_of}
use Rattle.asn1_headers.specs.declared.error.ASN1DecodeErr.{ASN1DecodeErr}
use Rattle.asn1_headers.specs.declared.error.ASN1DecodeErr.TheVariants.{OutOfMemory}
use Rattle.asn1_numbers.specs.Octets.{AreOctets, FitInSlice}
use Rattle.asn1_blocks.specs.Tree.{Tree, Trees, leaf, group, explicit, unknown, no_trees, more_trees, shapes}
use Rattle.asn1_blocks.specs.Grammar.{Encodes, EncodesAll, FirstFault, IsDocument}
use Rattle.asn1_writing.specs.Canonical.{canonical, all_canonical}
use Rattle.asn1_writing.specs.ReadBack.{AllReadBackAs, IsCanonicalDocument, AreEqualNormalized, WrittenOfEqualsAlone}
use Rattle.asn1_blocks.specs.Faithful.{normalized, all_normalized, IsFaithful, AreFaithful}
use Rattle.asn1_blocks.proofs.Leaves.{IsFaithfulLeaf-read}
use Rattle.asn1_blocks.proofs.OneReading.{EncodesAll-unique}
use Rattle.asn1_blocks.proofs.FaultsAlone.{FirstFault-unique}
use Rattle.asn1_blocks.proofs.Readings.{IsDocument-no_fault}
use Rattle.asn1_writing.proofs.Writable.{AreOctets-first, AreOctets-second, AreOctets-contents}
use Rattle.asn1_writing.proofs.Placed.{all_placed, EncodesAll-all_canonical, canonical-not_empty, shapes-all_placed}
use Rattle.asn1_writing.proofs.Shapes.{all_canonical-all_normalized, all_canonical-shapes}

mutual
  -- a tree that was read is faithful once normalized
  pub IsFaithful-read : (o : ℕ) (octets : List ℕ) (b : Tree ℕ) → AreOctets octets → Encodes o octets b →
      IsFaithful (normalized b)
  IsFaithful-read o octets (leaf p l) a (_, _, contents, _, F, means) =
      IsFaithfulLeaf-read l contents (AreOctets-contents octets _ _ _ contents _ F a) means
  IsFaithful-read o octets (group p g bs) a (_, _, contents, header, F, items) =
      AreFaithful-read (o + header) contents bs (AreOctets-contents octets _ _ _ contents _ F a) items
  IsFaithful-read o octets (explicit c p n b) a (_, other, contents, header, F, item) =
      (other, IsFaithful-read (o + header) contents b (AreOctets-contents octets _ _ _ contents _ F a) item)
  IsFaithful-read o octets (unknown c k p n v) a (_, _, _, stays) = stays

  -- trees that octets encode are faithful once normalized
  pub AreFaithful-read : (o : ℕ) (octets : List ℕ) (bs : Trees ℕ) → AreOctets octets → EncodesAll o octets bs →
      AreFaithful (all_normalized bs)
  AreFaithful-read o octets no_trees a s = tt
  AreFaithful-read o octets (more_trees b bs) a s = (
    IsFaithful-read o s.first b (AreOctets-first octets s.first s.rest s.whole a) s.item,
    AreFaithful-read (o + length s.first) s.rest bs
        (AreOctets-second octets s.first s.rest s.whole a) s.items,
  )

-- the trees of a document are faithful once normalized
pub AreFaithful-document : (octets : List ℕ) (bs : Trees ℕ) → AreOctets octets → IsDocument octets bs →
    AreFaithful (all_normalized bs)
AreFaithful-document octets bs a d = AreFaithful-read 0 octets bs a d.blocks

-- at least one octet is written of a document
all_canonical-not_empty : (octets : List ℕ) (bs : Trees ℕ) → IsDocument octets bs → 0 < length (all_canonical bs)
all_canonical-not_empty octets no_trees d = absurd (omega (arith, d.some, ap length d.blocks))
all_canonical-not_empty octets (more_trees b bs) d =
    omega (arith, canonical-not_empty b, length-append (canonical b) (all_canonical bs))

-- the canonical octets encode the trees, normalized
EncodesAll-rewritten :
    (octets : List ℕ) (bs : Trees ℕ) → AreOctets octets → FitInSlice (all_canonical bs) →
    IsDocument octets bs → EncodesAll 0 (all_canonical bs) (all_placed 0 (all_normalized bs))
EncodesAll-rewritten octets bs a small d =
    let e = all_canonical-all_normalized bs in
    let fits : length (all_canonical (all_normalized bs)) < 2 ^ 64 = omega (arith, small, ap length e) in
    subst (λ z. EncodesAll 0 z (all_placed 0 (all_normalized bs))) e
    (EncodesAll-all_canonical 0 (all_normalized bs) fits (AreFaithful-document octets bs a d))

-- the canonical octets are a document of the normalized trees
IsDocument-rewritten :
    (octets : List ℕ) (bs : Trees ℕ) → AreOctets octets → FitInSlice (all_canonical bs) →
    IsDocument octets bs → IsDocument (all_canonical bs) (all_placed 0 (all_normalized bs))
IsDocument-rewritten octets bs a small d =
    record { some = all_canonical-not_empty octets bs d; blocks = EncodesAll-rewritten octets bs a small d }

-- trees that are equal when normalized have the same canonical octets
pub all_canonical-equal_normalized : (bs cs : Trees ℕ) → AreEqualNormalized bs cs → all_canonical bs ≡ all_canonical cs
all_canonical-equal_normalized bs cs e =
    let there = sym (all_canonical-all_normalized bs) ∙ sym (all_canonical-shapes (all_normalized bs)) in
    let back = all_canonical-shapes (all_normalized cs) ∙ all_canonical-all_normalized cs in
    there ∙ (ap all_canonical e ∙ back)

-- what is read of the canonical octets is equal to the normalized trees
shapes-rewritten :
    (octets : List ℕ) (bs cs : Trees ℕ) → AreOctets octets → FitInSlice (all_canonical bs) →
    IsDocument octets bs → IsDocument (all_canonical bs) cs → shapes cs ≡ shapes (all_normalized bs)
shapes-rewritten octets bs cs a small d e =
    let same = EncodesAll-unique 0 (all_canonical bs) cs (all_placed 0 (all_normalized bs)) e.blocks
    (EncodesAll-rewritten octets bs a small d) in
    ap shapes same ∙ shapes-all_placed 0 (all_normalized bs)

-- a document that was rewritten is written as the same octets
pub all_canonical-rewritten :
    (octets : List ℕ) (bs cs : Trees ℕ) → AreOctets octets → FitInSlice (all_canonical bs) →
    IsDocument octets bs → IsDocument (all_canonical bs) cs → all_canonical cs ≡ all_canonical bs
all_canonical-rewritten octets bs cs a small d e =
    let there = sym (all_canonical-shapes cs) ∙ ap all_canonical (shapes-rewritten octets bs cs a small d e) in
    there ∙ (all_canonical-shapes (all_normalized bs) ∙ all_canonical-all_normalized bs)

-- what is read of the canonical octets is the normalized trees
pub AllReadBackAs-rewritten :
    (octets : List ℕ) (bs : Trees ℕ) → AreOctets octets → FitInSlice (all_canonical bs) →
    IsDocument octets bs → AllReadBackAs (all_canonical bs) (all_normalized bs)
AllReadBackAs-rewritten octets bs a small d = (
  all_placed 0 (all_normalized bs),
  IsDocument-rewritten octets bs a small d,
  shapes-all_placed 0
      (all_normalized bs),
)

-- documents with the same canonical octets are equal when normalized
pub AreEqualNormalized-same_canonical :
    (xs ys : List ℕ) (bs cs : Trees ℕ) → AreOctets xs → AreOctets ys →
    FitInSlice (all_canonical bs) → IsDocument xs bs → IsDocument ys cs →
    all_canonical bs ≡ all_canonical cs → AreEqualNormalized bs cs
AreEqualNormalized-same_canonical xs ys bs cs a b small d f e =
    let ps = all_placed 0 (all_normalized bs) in
    let p = IsDocument-rewritten xs bs a small d in
    let q : length (all_canonical cs) < 2 ^ 64 = omega (arith, small, ap length e) in
    sym (shapes-rewritten xs bs ps a small d p) ∙ shapes-rewritten ys cs ps b q f (subst (λ z. IsDocument z ps) e p)

-- an answer that has the canonical octets of a document, or its first fault, is the only one

-- the canonical octets of the document are written
abbrev pub IsRewritten : List ℕ → Vec ℕ Global → Type 0
IsRewritten i out = (bs : Trees ℕ) × IsDocument i bs × (out.items ≡ all_canonical bs)

-- what is written of a document is the canonical octets of whichever trees it is read as
items-rewritten : (i : List ℕ) (out : Vec ℕ Global) → IsRewritten i out → (bs : Trees ℕ) → IsDocument i bs →
    out.items ≡ all_canonical bs
items-rewritten i out (read, d, e) bs f = e ∙ ap all_canonical (EncodesAll-unique 0 i read bs d.blocks f.blocks)

-- octets that were written fit in a slice
FitInSlice-rewritten : (out : Vec ℕ Global) (bs : Trees ℕ) → out.items ≡ all_canonical bs →
    FitInSlice (all_canonical bs)
FitInSlice-rewritten out bs e = omega (arith, out.small, out.ok.0, out.ok.1, ap length e)

-- rewriting a document fails for want of memory alone
pub IsDocument-rewrite_accepted :
    (i : List ℕ) (r : Result (Vec ℕ Global) ASN1DecodeErr) → length i < 2 ^ 64 →
    IfOk r (IsRewritten i) → IfErr r (OutOfMemoryOr (FirstFault i)) →
    (bs : Trees ℕ) → IsDocument i bs → MatchResult r (λ v. v.items ≡ all_canonical bs) (λ e. e ≡ OutOfMemory)
IsDocument-rewrite_accepted i (Ok out) small ok err bs d = items-rewritten i out ok bs d
IsDocument-rewrite_accepted i (Err e) small ok (inl memory) bs d = memory
IsDocument-rewrite_accepted i (Err e) small ok (inr fault) bs d =
    absurd (IsDocument-no_fault i bs (fault_of e) small d fault)

-- rewriting octets with a first fault reports it
pub FirstFault-rewrite_refused :
    (i : List ℕ) (r : Result (Vec ℕ Global) ASN1DecodeErr) → length i < 2 ^ 64 →
    IfOk r (IsRewritten i) → IfErr r (OutOfMemoryOr (FirstFault i)) →
    (fault : DecodeFault) → FirstFault i fault → IsErrAnd r (OutOfMemoryOr (λ e. e ≡ fault))
FirstFault-rewrite_refused i (Ok out) small (bs, d, e) err fault f = IsDocument-no_fault i bs fault small d f
FirstFault-rewrite_refused i (Err e) small ok (inl memory) fault f = inl memory
FirstFault-rewrite_refused i (Err e) small ok (inr first) fault f =
    inr (FirstFault-unique i (fault_of e) fault first f small)

-- what rewriting writes is read as the normalized trees
pub AllReadBackAs-rewrite :
    (i : List ℕ) (r : Result (Vec ℕ Global) ASN1DecodeErr) → AreOctets i → IfOk r (IsRewritten i) →
    (bs : Trees ℕ) → IsDocument i bs → IfOk r (λ v. AllReadBackAs v.items (all_normalized bs))
AllReadBackAs-rewrite i (Ok out) a ok bs d =
    let e = items-rewritten i out ok bs d in
    let back = AllReadBackAs-rewritten i bs a (FitInSlice-rewritten out bs e) d in
    (back.0, subst (λ z. IsDocument z back.0) (sym e) back.1, back.2)
AllReadBackAs-rewrite i (Err e) a ok bs d = tt

-- what rewriting writes is canonical
pub IsCanonicalDocument-rewrite :
    (i : List ℕ) (r : Result (Vec ℕ Global) ASN1DecodeErr) → AreOctets i → IfOk r (IsRewritten i) →
    IfOk r (λ v. IsCanonicalDocument v.items)
IsCanonicalDocument-rewrite i (Ok out) a (bs, d, e) =
    let fits = FitInSlice-rewritten out bs e in
    let cs = all_placed 0 (all_normalized bs) in
    let again = IsDocument-rewritten i bs a fits d in
    (cs, (subst (λ z. IsDocument z cs) (sym e) again, e ∙ sym (all_canonical-rewritten i bs cs a fits d again)))
IsCanonicalDocument-rewrite i (Err e) a ok = tt

-- what rewriting writes is written of documents that are equal when normalized, and of no others
pub WrittenOfEqualsAlone-rewrite :
    (i : List ℕ) (r : Result (Vec ℕ Global) ASN1DecodeErr) → AreOctets i → IfOk r (IsRewritten i) →
    IfOk r (λ v. WrittenOfEqualsAlone i v.items)
WrittenOfEqualsAlone-rewrite i (Ok out) a ok = λ other bs cs b f h.
    let e = items-rewritten i out ok bs f in (
      λ s. AreEqualNormalized-same_canonical i other bs cs a b (FitInSlice-rewritten out bs e) f h (sym e ∙ s),
      λ s. e
          ∙ all_canonical-equal_normalized bs cs s,
    )
WrittenOfEqualsAlone-rewrite i (Err e) a ok = tt
