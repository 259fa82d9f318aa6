-- What the iterators of an outline have.
use Rattle.std.specs.Prelude.{◌≡◌, ℕ, zero, suc, ◌+◌, ◌-◌, Bool, true, false, List, [], ◌∷◌, Some, slice_get}
use Rattle.std.specs.List.{enumerate_from}
use Rattle.asn1_outline.specs.declared.entry.Entry.{Entry}

-- at the index stands the entry
abbrev pub HasEntryIn : List Entry → ℕ × Entry → Type 0
HasEntryIn rs item = slice_get rs item.0 ≡ Some item.1

-- entries with their indexes, the first of which is given: the entry behind so many skipped ones, and then each that a
-- `next` leads to
abbrev pub side_by_side : ℕ → ℕ → List Entry → List (ℕ × Entry)
side_by_side skipped index [] = []
side_by_side zero index (r ∷ rs) = (index, r) ∷ side_by_side (r.next - (index + 1)) (index + 1) rs
side_by_side (suc skipped) index (r ∷ rs) = side_by_side skipped (index + 1) rs

-- the entries that an iterator has yet to return, with their indexes
abbrev pub still_to_come : Bool → ℕ → List Entry → List (ℕ × Entry)
still_to_come true index rs = enumerate_from index rs
still_to_come false index rs = side_by_side 0 index rs
