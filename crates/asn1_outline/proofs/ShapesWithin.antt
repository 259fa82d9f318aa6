-- The encodings of entries by headers lie in the octets, for `headers::Headers::contents` and
-- `headers::Headers::encoding`.
use Rattle.std.proofs.Common.{◌≡◌, ℕ, zero, suc, ◌+◌, ◌-◌, ◌<◌, ◌≤◌, ◌++◌, List, [], ◌∷◌, get_or, length, ◌∙◌, subst, sym, arith}
use Rattle.std.proofs.Props.{props}
use mathlib.Core.Logic.{∥∥₁_elim}
use Rattle.asn1_blocks.specs.declared.parsed.PlacedHeader.{PlacedHeader}
use Rattle.asn1_outline.specs.Entries.{no_entry}
use Rattle.asn1_outline.specs.Shapes.{AreEntriesOfShapes, AreShapes, HasItems, IsWithin, Shapes, as_it_came, entries_of, no_more, not_read, one_more, read_inside}
use Rattle.asn1_outline.specs.declared.entry.Entry.{Entry}

-- the encodings of all entries lie in the octets
abbrev pub AreWithin : List ℕ → List Entry → Type 0
AreWithin x [] = Unit {0}
AreWithin x (r ∷ rs) = IsWithin x r × AreWithin x rs

-- the encodings of joined lists of entries lie in the octets if the encodings of both lists do
AreWithin-append : (x : List ℕ) (rs ss : List Entry) → AreWithin x rs → AreWithin x ss → AreWithin x (rs ++ ss)
AreWithin-append x [] ss a b = b
AreWithin-append x (r ∷ rs) ss a b = (a.0, AreWithin-append x rs ss a.1 b)

-- the encoding of each entry lies in the octets where the encodings of all entries do
IsWithin-get_or : (x : List ℕ) (rs : List Entry) → AreWithin x rs → (k : ℕ) → k < length rs →
    IsWithin x (get_or rs k no_entry)
IsWithin-get_or x [] a k h = absurd (omega (arith, h))
IsWithin-get_or x (r ∷ rs) a zero h = a.0
IsWithin-get_or x (r ∷ rs) a (suc k) h = IsWithin-get_or x rs a.1 k (omega (arith, h))

mutual
  -- the encodings of the entries of shapes lie in the octets
  AreWithin-shapes : (x : List ℕ) (p e : ℕ) (all : Shapes) (i d : ℕ) → e ≤ length x → AreShapes x p e all →
      AreWithin x (entries_of i d all)
  AreWithin-shapes x p e all i d within (no_more end) = tt
  AreWithin-shapes x p e all i d within (one_more {header = h} {items = items} {rest = rest} f has are) =
      let own : p + (h.start - p) + (h.end - h.start) ≤ length x =
      omega (arith, f.starts_after, f.order, f.ends_within, within) in
      let next = suc i + length (entries_of (suc i) (suc d) items) in (
        own,
        AreWithin-append x (entries_of (suc i) (suc d) items) (entries_of next d rest)
            (AreWithin-items x h items (suc i) (suc d) (omega (arith, f.ends_within, within)) has)
            (AreWithin-shapes x h.end e rest next d within are),
      )

  -- the encodings of the entries of items lie in the octets
  AreWithin-items : (x : List ℕ) (h : PlacedHeader) (all : Shapes) (i d : ℕ) → h.end ≤ length x → HasItems x h all →
      AreWithin x (entries_of i d all)
  AreWithin-items x h all i d within (read_inside is are) = AreWithin-shapes x h.start h.end all i d within are
  AreWithin-items x h all i d within (as_it_came other bit fault) = tt
  AreWithin-items x h all i d within (not_read shut) = tt

-- an entry that was looked up lies within the octets
pub IsWithin-looked_up : (x : List ℕ) (es items : List Entry) (k : ℕ) (entry : Entry) → ∥ AreEntriesOfShapes x es ∥₁ →
    items ≡ es
    → (k < length items) × ((r : Entry) → entry ≡ get_or items k r) → IsWithin x entry
IsWithin-looked_up x es items k entry walked same (h, is) =
    let prop : IsProp (IsWithin x entry) = hlevel props in
    ∥∥₁_elim walked prop
    (λ all.
    let (shapes, has, are) = all in
    let there : AreWithin x items =
    subst (AreWithin x) (sym (same ∙ are)) (AreWithin-shapes x 0 (length x) shapes 0 0 (omega arith) has.shapes) in
    subst (IsWithin x) (sym (is no_entry)) (IsWithin-get_or x items there k h))
