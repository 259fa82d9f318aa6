-- What is put step by step. Private contracts alone name these.
use Rattle.std.specs.Prelude.{◌≡◌, ◌⊎◌, ℕ, suc, ◌+◌, Option, Bool, true, List, [], ◌∷◌, ◌++◌, map}
use Rattle.std.specs.List.{flat_map}
use Rattle.dump_lines.specs.Dump.{AreShown, AreTextsOf, Shown, marks_of}
use Rattle.dump_lines.specs.declared.encodings.Marked.{Marked}
use Rattle.dump_rows.specs.Printing.{IsPrinted}
use Rattle.dump_rows.specs.declared.printer.Printer.{Printer}
use Rattle.dump_walk.specs.Fronts.{AreFrontsOf, Front, StandAt}
use Rattle.dump_walk.specs.Pieces.{IsHolding, kind_front, kind_header}
use Rattle.dump_walk.specs.declared.piece.Piece.{Piece}
use Rattle.dump_walk.specs.declared.place.Place.{Place}

-- the offsets of marks
abbrev pub mark_offsets : List Marked → List ℕ
mark_offsets marks = map (λ m. m.offset) marks

-- the encoding that a piece is, in the document
abbrev pub shown_piece : Piece → Shown
shown_piece piece = record {
  front = kind_front (piece.place.base + piece.offset) piece.place.depth piece.breaches.rules.items
      piece.breaches.has_spare_bits piece.kind;
  inside = piece.place.is_inside;
}

-- the encodings were put, and the marks of those that have one behind earlier ones
abbrev pub ArePut : Bool → Option ℕ → List Shown → List ℕ → List ℕ → List ℕ → Type 0
ArePut strict most shown before after text =
    (after ≡ before ++ flat_map (marks_of strict) shown) × AreTextsOf most shown text

-- the encodings that are shown behind the header of a piece that begins the octets, if some are
abbrev pub AreInside : List ℕ → Piece → List Shown → Type 0
AreInside left piece inner =
    (inner ≡ [])
    ⊎ ((before : ℕ) × (part : List ℕ) × (own : List Front) × (faults : List ℕ)
    × StandAt left (kind_header piece.kind + before) part × AreFrontsOf part own faults
    × AreShown true (piece.place.base + (piece.offset + (kind_header piece.kind + before))) (suc piece.place.depth)
    part own inner)

-- the first of faults, if there is one
abbrev pub first_of : List ℕ → List ℕ
first_of [] = []
first_of (offset ∷ offsets) = offset ∷ []

-- all encodings of octets that stand at the place were put; this is the first fault
pub record IsWhole (strict : Bool) (place : Place) (octets first before after text : List ℕ) : Type 0 where
  pub fronts : List Front
  pub faults : List ℕ
  pub shown : List Shown
  pub read : AreFrontsOf octets fronts faults
  pub first_is : first ≡ first_of faults
  pub are : AreShown place.is_inside place.base place.depth octets fronts shown
  pub put : ArePut strict place.style.most_depth shown before after text

-- those inside a piece were put
abbrev pub IsInner : Bool → Piece → List ℕ → List ℕ → List ℕ → List ℕ → Type 0
IsInner strict piece left before after text =
    (inner : List Shown) × AreInside left piece inner
    × ArePut strict piece.place.style.most_depth inner before after text

-- the piece and those inside it were put
abbrev pub IsOwn : Bool → Piece → List ℕ → List ℕ → List ℕ → List ℕ → Type 0
IsOwn strict piece left before after text =
    (inner : List Shown) × AreInside left piece inner
    × ArePut strict piece.place.style.most_depth (shown_piece piece ∷ inner) before after text

-- what was printed is of the piece, wherever it stands
abbrev pub PrintsHeld :
    {W : Type 0} → (W → Option (List ℕ)) → (List ℕ → List ℕ → Type 0)
    → Piece → Printer W → Printer W → Type 0
PrintsHeld contents Is piece old new =
    (left : List ℕ) → IsHolding left piece.kind piece.place piece.nested → IsPrinted contents (Is left) old new
