-- What is in a string stands in the document around, for the methods of `Inside` and `Outline::inside`.
use Rattle.std.proofs.Common.{◌≡◌, ℕ, ◌+◌, ◌-◌, ◌<◌, ◌≤◌, ◌^◌, ◌++◌, List, inl, inr, drop, get_or, length, min, take, refl, sym, ap, ◌∙◌, arith, length-append}
use Rattle.std.specs.List.{All, slice_range}
use Rattle.std.proofs.lemmas.List.{drop-append-le, drop-drop, length-drop, take-append-drop, take-append-le}
use Rattle.std.proofs.lemmas.List.Elements.{All-from_get_or}
use Rattle.asn1_headers.specs.Fault.{DecodeFault, OutOfMemoryOr, fault_of}
use Rattle.asn1_headers.specs.Reading.{OutOfMemoryOrAt}
use Rattle.asn1_headers.specs.declared.error.LocatedErr.{LocatedErr}
use Rattle.asn1_blocks.specs.Grammar.{BlocksFaultAt, FirstFaultAt, in_contents, in_header, in_item}
use Rattle.asn1_blocks.proofs.ReadSteps.{length-slice_range}
use Rattle.asn1_outline.specs.Entries.{IsOutline, no_entry}
use Rattle.asn1_outline.specs.InStrings.{FirstFaultInString, HasString, StandsAt, StringBeginsAt, later}
use Rattle.asn1_outline.specs.Shapes.{IsWithin, contents_octets, encoding_octets}
use Rattle.asn1_outline.specs.declared.entry.Entry.{Entry}
use Rattle.asn1_outline.proofs.BlockRefs.{IsEntryOf-some, IsWithin-some}

-- the first fault of blocks begins in their octets, or behind them
BlocksFaultAt-within : (octets : List ℕ) (e : DecodeFault) (o : ℕ) → BlocksFaultAt octets e o → o ≤ length octets
BlocksFaultAt-within octets e o (in_header front rest whole are some w) =
    omega (arith, ap length whole, length-append front rest)
BlocksFaultAt-within octets e o (in_contents front x rest whole are f l) =
    omega (arith, ap length whole, length-append front (x ++ rest))
BlocksFaultAt-within octets e o (in_item {contents = v} {header = h} {inside = i} front x rest whole are g y p) =
    let within = BlocksFaultAt-within v e i p in
    omega (
      arith,
      within,
      ap length whole,
      length-append front (x ++ rest),
      length-append x rest,
      y.size,
      ap length y.whole,
      length-append y.identifier (y.len ++ v),
      length-append y.len v,
    )

-- so does the first fault of octets that are no document
FirstFaultAt-within : (octets : List ℕ) (e : DecodeFault) (o : ℕ) → FirstFaultAt octets e o → o ≤ length octets
FirstFaultAt-within octets e o (inl (empty, error, first)) = omega (arith, first)
FirstFaultAt-within octets e o (inr fault) = BlocksFaultAt-within octets e o fault

-- a string begins in one place
StringBeginsAt-unique : (x : List ℕ) (r : Entry) (s t : ℕ) → StringBeginsAt x r s → StringBeginsAt x r t → s ≡ t
StringBeginsAt-unique x r s t (inl (_, p)) (inl (_, q)) = p ∙ sym q
StringBeginsAt-unique x r s t (inl (octets, p)) (inr ((universal, bits, _), q)) =
    absurd (omega (arith, octets universal, bits))
StringBeginsAt-unique x r s t (inr ((universal, bits, _), p)) (inl (octets, q)) =
    absurd (omega (arith, octets universal, bits))
StringBeginsAt-unique x r s t (inr (_, p)) (inr (_, q)) = p ∙ sym q

-- an entry is of one string
pub HasString-unique : (x : List ℕ) (r : Entry) (s t : ℕ) (y z : List ℕ) → HasString x r s y → HasString x r t z →
    (s ≡ t) × (y ≡ z)
HasString-unique x r s t y z h g =
    let same = StringBeginsAt-unique x r s t h.begins g.begins in
    (same, h.octets_are ∙ ap (λ n. slice_range x n (r.offset + r.header + r.contents)) same ∙ sym g.octets_are)

-- octets that stand in a document are at the front of what is behind their start
StandsAt-drop : (x : List ℕ) (s : ℕ) (y : List ℕ) → StandsAt x s y → drop s x ≡ y ++ drop (length y) (drop s x)
StandsAt-drop x s y a =
    let size : s + length y - s ≡ length y = omega arith in
    sym (take-append-drop (length y) (drop s x))
    ∙ ap (λ z. z ++ drop (length y) (drop s x)) (ap (λ n. take n (drop s x)) (sym size) ∙ a.octets_are)

-- a slice of octets that stand in a document is one of the document
pub slice_range-inside : (x : List ℕ) (s : ℕ) (y : List ℕ) (i j a b : ℕ) → StandsAt x s y → i ≤ j → j ≤ length y →
    a ≡ s + i → b ≡ s + j →
    slice_range x a b ≡ slice_range y i j
slice_range-inside x s y i j a b st order within first last =
    let rest = drop (length y) (drop s x) in
    let size : b - a ≡ j - i = omega (arith, first, last, order) in
    let behind : drop a x ≡ drop i y ++ rest =
    ap (λ n. drop n x) first ∙ sym (drop-drop i s x) ∙ ap (drop i) (StandsAt-drop x s y st)
    ∙ drop-append-le i y rest (omega (arith, order, within)) in
    ap (λ n. take n (drop a x)) size ∙ ap (take (j - i)) behind
    ∙ take-append-le (j - i) (drop i y) rest (omega (arith, order, within, length-drop i y))

module _ (x : List ℕ) (s : ℕ) (y : List ℕ) (r : Entry) (st : StandsAt x s y) (within : IsWithin y r) where
  -- an entry of octets that stand in a document lies in the document
  pub IsWithin-later : IsWithin x (later s r)
  IsWithin-later = omega (arith, st.within, within)

  -- it has the same octets there
  pub encoding_octets-later : encoding_octets x (later s r) ≡ encoding_octets y r
  encoding_octets-later =
      slice_range-inside x s y r.offset (r.offset + r.header + r.contents) (s + r.offset)
      (s + r.offset + r.header + r.contents) st (omega arith) within refl (omega arith)

  -- and the same contents octets
  pub contents_octets-later : contents_octets x (later s r) ≡ contents_octets y r
  contents_octets-later =
      slice_range-inside x s y (r.offset + r.header) (r.offset + r.header + r.contents) (s + r.offset + r.header)
      (s + r.offset + r.header + r.contents) st (omega arith) within (omega arith) (omega arith)

-- the entry at an index of an outline lies in its octets
pub IsWithin-outline : (y : List ℕ) (es : List Entry) (k : ℕ) → ∥ IsOutline y es ∥₁ → k < length es →
    IsWithin y (get_or es k no_entry)
IsWithin-outline y es k lent h = IsWithin-some y (get_or es k no_entry) (IsEntryOf-some y es k lent h)

-- the octets of a string stand in the document
pub StandsAt-string : (x : List ℕ) (r : Entry) (s : ℕ) (y : List ℕ) → IsWithin x r →
    s ≤ r.offset + r.header + r.contents → HasString x r s y → StandsAt x s y
StandsAt-string x r s y within order h =
    let end = r.offset + r.header + r.contents in
    let some : length (slice_range x s end) ≡ end - s = length-slice_range x s end order within in
    let size : s + length y ≡ end = omega (arith, some, order, ap length h.octets_are) in
    record {
      within = omega (arith, size, within);
      octets_are = ap (slice_range x s) size ∙ sym h.octets_are;
    }

-- an offset that is greater by the start of the string does not saturate
exact_place : (x : List ℕ) (s : ℕ) (y : List ℕ) (o place : ℕ) → StandsAt x s y → length x < 2 ^ 64 → o ≤ length y →
    place ≡ min (s + o) (2 ^ 64 - 1) →
    place ≡ s + o
exact_place x s y o place st small within at = omega (arith, at, within, st.within, small)

-- the first fault of the octets of a string is one of the string, with its offset in the document around
pub FirstFaultInString-located :
    (x : List ℕ) (r : Entry) (s : ℕ) (y : List ℕ) (e : LocatedErr) (place : ℕ) → HasString x r s y → StandsAt x s y →
    length x < 2 ^ 64 → place ≡ min (s + e.offset) (2 ^ 64 - 1) → OutOfMemoryOrAt (FirstFaultAt y) e →
    OutOfMemoryOr (λ fault. FirstFaultInString x r fault place) e.error
FirstFaultInString-located x r s y e place h st small at (inl memory) = inl memory
FirstFaultInString-located x r s y e place h st small at (inr fault) =
    let within = FirstFaultAt-within y (fault_of e.error) e.offset fault in
    inr (s, y, e.offset, h, fault, exact_place x s y e.offset place st small within at)

-- an error that is a first fault of the octets of a string is that of the string
pub FirstFaultInString-only :
    (x : List ℕ) (s : ℕ) (y : List ℕ) (e : LocatedErr) (place : ℕ) (fault : DecodeFault) (o whole : ℕ) →
    StandsAt x s y → length x < 2 ^ 64 → FirstFaultAt y fault o → whole ≡ s + o →
    place ≡ min (s + e.offset) (2 ^ 64 - 1) →
    OutOfMemoryOrAt (λ found there. (found ≡ fault) × (there ≡ o)) e →
    OutOfMemoryOr (λ found. (found ≡ fault) × (place ≡ whole)) e.error
FirstFaultInString-only x s y e place fault o whole st small f is at (inl memory) = inl memory
FirstFaultInString-only x s y e place fault o whole st small f is at (inr (same, there)) =
    let within = FirstFaultAt-within y fault o f in
    let exact = exact_place x s y e.offset place st small (omega (arith, there, within)) at in
    inr (same, exact ∙ ap (λ n. s + n) there ∙ sym is)

-- what is in a string has entries whose offsets in the document around are numbers of 64 bits
pub All-later : (x : List ℕ) (s : ℕ) (y : List ℕ) (es : List Entry) → StandsAt x s y → length x < 2 ^ 64 →
    ∥ IsOutline y es ∥₁ →
    All (λ r. s + r.offset < 2 ^ 64) es
All-later x s y es st small lent = All-from_get_or (λ r. s + r.offset < 2 ^ 64) es no_entry
    (λ k h. omega (arith, st.within, IsWithin-outline y es k lent h, small))
