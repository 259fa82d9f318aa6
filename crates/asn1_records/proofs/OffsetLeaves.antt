-- The leaf that an encoding at an offset is, by its tag and its contents octets, and why there is none of a kind, for
-- the calls that return a value.
use Rattle.std.proofs.Common.{◌≡◌, ◌⊎◌, ℕ, ◌<◌, ◌^◌, List, [], inl, inr, refl, sym, subst, ◌∙◌, append-nil}
use Rattle.asn1_headers.proofs.Prefixes.{Encoding-unique}
use Rattle.asn1_headers.specs.declared.header.ASN1Class.TheVariants.{Universal}
use Rattle.asn1_blocks.proofs.OneReading.{IsBlock-not_empty, IsBlock-encodes, EncodesAll-single, Encodes-single}
use Rattle.asn1_blocks.proofs.Slices.{EncodingAt-unique}
use Rattle.asn1_outline.specs.Entries.{IsCapped}
use Rattle.simple_asn1.specs.Contents.{LeafContents, LeafFault, leaf_tag}
use Rattle.simple_asn1.specs.Fault.{DecodeFault}
use Rattle.simple_asn1.specs.Grammar.{Encodes, FirstFault, in_contents, no_blocks}
use Rattle.simple_asn1.specs.Header.{Encoding}
use Rattle.simple_asn1.specs.Tree.{Leaf, leaf}
use Rattle.asn1_records.specs.Status.{no_memory, no_such_value, status_of}
use Rattle.asn1_records.specs.Values.{IsLeafAt, IsMissing, UniversalAt, is_at_fault, is_of_another_kind}

module _ (octets : List ℕ) (offset : ℕ) where
  -- contents octets of class Universal that mean a leaf are that leaf
  pub IsLeafAt-universal : (l : Leaf) (v : List ℕ) → UniversalAt octets offset (leaf_tag l) v → LeafContents l v →
      IsLeafAt octets offset l
  IsLeafAt-universal l v u means =
      let s : Encodes 0 u.whole (leaf 0 l) = (refl, u.constructed, v, u.header, u.encoding, means) in
      let some = IsBlock-not_empty u.whole (IsBlock-encodes 0 u.whole (leaf 0 l) s) in
      (0, (u.whole, u.at, record { some = some; blocks = EncodesAll-single 0 u.whole (leaf 0 l) s }))

  -- the encoding of a leaf that is read alone
  pub record HasLeafAt (l : Leaf) : Type 0 where
    pub contents : List ℕ
    pub universal : UniversalAt octets offset (leaf_tag l) contents
    pub meaning : LeafContents l contents

  -- a leaf at an offset has contents octets there
  pub HasLeafAt-leaf : (l : Leaf) → IsLeafAt octets offset l → HasLeafAt l
  HasLeafAt-leaf l (o, (x, at, d)) =
      let (_, bit, contents, header, encoding, meaning) = Encodes-single 0 x (leaf o l) d.blocks in record {
        contents = contents;
        universal = record { whole = x; at = at; constructed = bit; header = header; encoding = encoding };
        meaning = meaning;
      }

  -- at most one encoding of class Universal stands at an offset
  pub UniversalAt-unique : (m n : ℕ) (v w : List ℕ) → UniversalAt octets offset m v → UniversalAt octets offset n w →
      (m ≡ n) × (v ≡ w)
  UniversalAt-unique m n v w a b =
      let same = EncodingAt-unique octets offset a.whole b.whole a.at b.at in
      let here = subst (λ z. Encoding z Universal a.constructed m v a.header) same a.encoding in
      let e = Encoding-unique b.whole b.whole Universal Universal a.constructed b.constructed m n v w a.header b.header
      [] [] here b.encoding refl in
      (e.tag, e.contents)

  -- contents octets at fault are the first fault
  FirstFault-leaf : (n : ℕ) (v : List ℕ) (u : UniversalAt octets offset n v) (fault : DecodeFault) →
      LeafFault n v fault →
      FirstFault u.whole fault
  FirstFault-leaf n v u fault f =
      let x = u.whole in
      (0, inr (in_contents [] x [] (sym (append-nil x)) no_blocks u.encoding f))

  -- a kind, whose values are leaves with one of these tags
  module _ (Value : Type 0) (IsTag : ℕ → Type 0)
      (leaf_of : Value → (l : Leaf) × IsTag (leaf_tag l) × IsLeafAt octets offset l) where
    -- where no encoding has a tag of the kind, a value of it is missing
    IsMissing-none : (s : ℕ) → ((n : ℕ) (v : List ℕ) → IsTag n → UniversalAt octets offset n v → ⊥) → s ≡ no_such_value
        → IsMissing Value IsTag octets offset s
    IsMissing-none s none e = inr (
      (λ value.
          let (l, t, is) = leaf_of value in
          let w = HasLeafAt-leaf l is in
          none (leaf_tag l) w.contents t w.universal),
      is_of_another_kind e none,
    )

    -- where no encoding of class Universal stands, a value is missing, or memory ran out
    pub IsMissing-nothing : (status s : ℕ) →
        (status ≡ no_memory) ⊎ ((status ≡ no_such_value) × ((n : ℕ) (v : List ℕ) → UniversalAt octets offset n v → ⊥))
        → s ≡ status → IsMissing Value IsTag octets offset s
    IsMissing-nothing status s (inl m) e = inl (e ∙ m)
    IsMissing-nothing status s (inr (m, none)) e = IsMissing-none s (λ n v t u. none n v u) (e ∙ m)

    -- where an encoding with another tag stands, a value of the kind is missing
    pub IsMissing-not_tag : (s n field : ℕ) (v : List ℕ) → UniversalAt octets offset n v → IsCapped n field →
        ((m : ℕ) → IsTag m → m < 2 ^ 64)
        → (IsTag field → ⊥) → s ≡ no_such_value → IsMissing Value IsTag octets offset s
    IsMissing-not_tag s n field v u (exact, capped) small other e =
        IsMissing-none s (λ m w t a.
        let same = (UniversalAt-unique m n w v a u).0 in
        let number : field ≡ n = exact (subst (λ z. z < 2 ^ 64) same (small m t)) in
        other (subst IsTag (same ∙ sym number) t)) e

    -- where the contents octets are at fault, a value of the kind is missing for it
    pub IsMissing-fault : (s n : ℕ) (v : List ℕ) → IsTag n → UniversalAt octets offset n v → (fault : DecodeFault) →
        LeafFault n v fault
        → s ≡ status_of fault → IsMissing Value IsTag octets offset s
    IsMissing-fault s n v t u fault f e = inr (
      (λ value.
          let (l, tl, is) = leaf_of value in
          let w = HasLeafAt-leaf l is in
          let (tag, contents) = UniversalAt-unique (leaf_tag l) n w.contents v w.universal u in
          f.none l (sym tag) (subst (LeafContents l) contents w.meaning)),
      is_at_fault n t v u fault (FirstFault-leaf n v u fault f) e,
    )
