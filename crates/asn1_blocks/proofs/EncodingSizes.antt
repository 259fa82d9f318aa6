-- The size of an encoding, by its header, for `encoding::any_encoding_size`, `encoding::encoding_size` and
-- for the crates above.
use Rattle.std.proofs.Common.{◌≡◌, ℕ, ◌+◌, ◌%◌, ◌<◌, ◌≤◌, List, [], ◌∷◌, ◌++◌, inl, length, take, drop, refl, sym, ap, ◌∙◌, subst, arith, length-append, length-drop}
use Rattle.std.specs.Prelude.{slice_index_or}
use Rattle.std.proofs.lemmas.List.{take-append-drop, take_at, length-take-le}
use Rattle.std.proofs.Math.Seq.{take-add}
use Rattle.std.proofs.Math.ListN.{drop_of_length-le}
use Rattle.asn1_headers.specs.Header.{BeginsWithNo, IsIdentifier, IsLength, IsSomeIdentifier}
use Rattle.asn1_blocks.specs.Places.{EncodingAt, IsEncoding, TreeAt}
use Rattle.asn1_blocks.proofs.Slices.{EncodingAt-tree_octets}
use Rattle.asn1_headers.proofs.Fronts.{leading_octet-parts}
use Rattle.asn1_headers.proofs.Prefixes.{IsIdentifier-unique, IsLength-unique, Encoding-not_empty, IsIdentifier-not_empty}
use Rattle.asn1_blocks.proofs.Faults.{IsLength-first, append-encoding_parts}

-- no encoding stands where there are no identifier octets
pub IsEncoding-not_without_identifier : (octets : List ℕ) → BeginsWithNo IsSomeIdentifier octets → (x rest : List ℕ) →
    octets ≡ x ++ rest → IsEncoding x → ⊥
IsEncoding-not_without_identifier octets missing x rest e p =
    let f = p.encoding in
    let w = append-encoding_parts octets x rest p.class p.constructed p.tag p.contents p.header f e in
    missing p.tag (length f.identifier) (
      p.class,
      p.constructed,
      subst (λ z. IsIdentifier z p.class p.constructed p.tag)
          (sym (ap (take (length f.identifier)) w
          ∙ take_at f.identifier (f.len ++ (p.contents ++ rest)) (length f.identifier) refl)) f.identifier_octets,
    )

-- the identifier octets that octets begin with are those of the encoding in front, whose length octets follow
split-identifier :
    (octets : List ℕ) (i tag : ℕ) → IsSomeIdentifier (take i octets) tag → (x rest : List ℕ) →
    octets ≡ x ++ rest → (p : IsEncoding x) →
    (take i octets ≡ p.encoding.identifier) × (drop i octets ≡ p.encoding.len ++ (p.contents ++ rest))
split-identifier octets i tag (_, _, t) x rest e p =
    let f = p.encoding in
    let w = append-encoding_parts octets x rest p.class p.constructed p.tag p.contents p.header f e in
    let q = IsIdentifier-unique (take i octets) f.identifier (drop i octets)
    (f.len ++ (p.contents ++ rest)) _ _ _ _ _ _ t f.identifier_octets (take-append-drop i octets ∙ w) in
    (q.octets, q.rest)

-- no encoding begins where no length octets stand behind identifier octets
pub IsEncoding-not_without_length :
    (octets : List ℕ) (i tag : ℕ) → IsSomeIdentifier (take i octets) tag →
    BeginsWithNo IsLength (drop i octets) → (x rest : List ℕ) → octets ≡ x ++ rest → IsEncoding x →
    ⊥
IsEncoding-not_without_length octets i tag t missing x rest e p =
    let a = split-identifier octets i tag t x rest e p in
    let f = p.encoding in
    missing (length p.contents) (length f.len) (subst (λ z. IsLength z (length p.contents))
    (sym (ap (take (length f.len)) a.1 ∙ take_at f.len (p.contents ++ rest) (length f.len) refl)) f.length_octets)

-- no encoding begins where fewer octets are left than the length octets tell
pub IsEncoding-not_cut_off :
    (octets : List ℕ) (i l m tag : ℕ) → IsSomeIdentifier (take i octets) tag → i ≤ length octets →
    IsLength (take l (drop i octets)) m → l ≤ length (drop i octets) → length octets < i + l + m →
    (x rest : List ℕ) → octets ≡ x ++ rest → IsEncoding x → ⊥
IsEncoding-not_cut_off octets i l m tag t le u few short x rest e p =
    let a = split-identifier octets i tag t x rest e p in
    let f = p.encoding in
    let q = IsLength-unique (take l (drop i octets)) f.len (drop l (drop i octets)) (p.contents ++ rest) m
    (length p.contents) u f.length_octets (take-append-drop l (drop i octets) ∙ a.1) in
    omega (
      arith,
      short,
      few,
      le,
      q.number,
      ap length q.rest,
      length-append p.contents rest,
      length-drop l (drop i octets),
      length-drop i octets,
    )

-- identifier octets, length octets and as many contents octets as they announce are an encoding
pub IsEncoding-front :
    (octets : List ℕ) (i l m tag : ℕ) → IsSomeIdentifier (take i octets) tag → i ≤ length octets →
    IsLength (take l (drop i octets)) m → l ≤ length (drop i octets) → i + l + m ≤ length octets →
    IsEncoding (take (i + l + m) octets)
IsEncoding-front octets i l m tag (c, k, t) le u few fits =
    let r = drop i octets in
    let v = take m (drop l r) in
    let n : length v ≡ m =
    length-take-le m (drop l r) (omega (arith, fits, few, le, length-drop l r, length-drop i octets)) in
    let e : i + l + m ≡ i + (l + m) = omega arith in
    record {
      class = c;
      constructed = k;
      tag = tag;
      contents = v;
      header = i + l;
      encoding = record {
        identifier = take i octets;
        len = take l r;
        identifier_octets = t;
        length_octets = subst (IsLength (take l r)) (sym n) u;
        whole = ap (λ z. take z octets) e ∙ (take-add i (l + m) octets ∙ ap (λ z. take i octets ++ z) (take-add l m r));
        size = omega (arith, length-take-le i octets le, length-take-le l r few);
      };
    }

-- no encoding stands past the end
pub EncodingAt-not_past_end : (document : List ℕ) (offset : ℕ) → length document < offset → (octets : List ℕ) →
    EncodingAt document offset octets → ⊥
EncodingAt-not_past_end document offset h octets p =
    let x = p.encoding in
    let e : drop offset document ≡ [] = drop_of_length-le document (omega (arith, h)) in
    omega (
      arith,
      Encoding-not_empty octets _ _ _ _ _ x.encoding,
      ap length (sym e ∙ p.at_offset),
      length-append octets p.rest,
    )

-- an encoding has two octets or more
pub IsEncoding-two_le : (octets : List ℕ) → IsEncoding octets → 2 ≤ length octets
IsEncoding-two_le octets p =
    let f = p.encoding in
    let (b, r, e) = IsLength-first f.len (length p.contents) f.length_octets in
    omega (
      arith,
      IsIdentifier-not_empty f.identifier p.class p.constructed p.tag f.identifier_octets,
      ap length e,
      ap length f.whole,
      length-append f.identifier (f.len ++ p.contents),
      length-append f.len p.contents,
    )

-- at the offset of a tree of a document stands an encoding
pub EncodingAt-tree : (document : List ℕ) (offset : ℕ) (octets : List ℕ) → TreeAt document offset octets →
    EncodingAt document offset octets
EncodingAt-tree document offset octets t =
    subst (λ z. EncodingAt document z octets) t.offset_is
    (EncodingAt-tree_octets document t.all t.tree octets t.read t.own_octets)

-- a leading octet of a low tag number, a length octet of the short form and as many octets as it says are an encoding
pub IsEncoding-short : (octets : List ℕ) → 2 ≤ length octets → slice_index_or octets 0 0 < 256 →
    slice_index_or octets 0 0 % 32 < 31 → slice_index_or octets 1 0 < 128 →
    2 + slice_index_or octets 1 0 ≤ length octets →
    IsEncoding (take (2 + slice_index_or octets 1 0) octets)
IsEncoding-short [] two octet low short fits = absurd (omega (arith, two))
IsEncoding-short (b ∷ []) two octet low short fits = absurd (omega (arith, two))
IsEncoding-short (b ∷ l ∷ rest) two octet low short fits =
    let (c, k, e) = leading_octet-parts b octet in
    IsEncoding-front (b ∷ l ∷ rest) 1 1 l (b % 32) (c, k, (low, e)) (omega arith) (inl (short, refl, refl))
    (omega arith) (omega (arith, fits))

-- no encoding begins with a leading octet of a low tag number and a length octet of more octets than are left
pub IsEncoding-not_short_cut_off : (octets : List ℕ) → 2 ≤ length octets → slice_index_or octets 0 0 < 256 →
    slice_index_or octets 0 0 % 32 < 31 → slice_index_or octets 1 0 < 128 →
    length octets < 2 + slice_index_or octets 1 0 → (x rest : List ℕ) → octets ≡ x ++ rest → IsEncoding x → ⊥
IsEncoding-not_short_cut_off [] two octet low short few = absurd (omega (arith, two))
IsEncoding-not_short_cut_off (b ∷ []) two octet low short few = absurd (omega (arith, two))
IsEncoding-not_short_cut_off (b ∷ l ∷ octets) two octet low short few =
    let (c, k, e) = leading_octet-parts b octet in
    IsEncoding-not_cut_off (b ∷ l ∷ octets) 1 1 l (b % 32) (c, k, (low, e)) (omega arith) (inl (short, refl, refl))
    (omega arith) (omega (arith, few))
