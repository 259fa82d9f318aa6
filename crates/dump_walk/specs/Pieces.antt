-- The pieces in which octets are gone over: encodings, end-of-contents octets, and octets that begin with no header.
use Rattle.std.specs.Prelude.{◌≡◌, ℕ, ◌+◌, ◌<◌, ◌≤◌, Bool, true, false, List, [], ◌∷◌, ◌++◌, codes, length, IfSome, Option, None, Some, slice_range, ⊤}
use Rattle.asn1_der.specs.declared.rule.Rule.{Rule}
use Rattle.dump_values.specs.Tags.{tag_name}
use Rattle.dump_values.specs.declared.faults.Fault.{Fault}
use Rattle.dump_values.specs.declared.value.LeafValue.{LeafValue}
use Rattle.dump_walk.specs.Fronts.{AddsLine, AreFrontsOf, Front, HoldsBehind, IsNextLine, LinesTo}
use Rattle.dump_walk.specs.Steps.{HasGone, to_go}
use Rattle.dump_walk.specs.declared.cursor.Cursor.{Cursor}
use Rattle.dump_walk.specs.declared.cursor.End.{End}
use Rattle.dump_walk.specs.declared.nested.Nested.{Nested}
use Rattle.dump_walk.specs.declared.piece.Here.{Here}
use Rattle.dump_walk.specs.declared.piece.Piece.{Piece}
use Rattle.dump_walk.specs.declared.piece.PieceKind.{PieceKind}
use Rattle.dump_walk.specs.declared.piece.PieceKind.TheVariants.{Cut, EndOfContents, Leaf, Opened, Unreadable}
use Rattle.dump_walk.specs.declared.place.Place.{Place}
use Rattle.dump_walk.specs.declared.walk.Walk.{Walk}

-- the offset of what is wrong, if anything is
abbrev pub fault_offset : Option Fault → List ℕ
fault_offset None = []
fault_offset (Some fault) = fault.offset ∷ []

-- how many octets the header of a piece has, or how many are end-of-contents octets
abbrev pub kind_header : PieceKind → ℕ
kind_header (EndOfContents size) = size
kind_header (Unreadable octets) = 0
kind_header (Cut header contents) = header.size
kind_header (Opened header contents joined) = header.size
kind_header (Leaf header contents value) = header.size

-- how many contents octets a piece announces, or has
abbrev pub kind_contents : PieceKind → ℕ
kind_contents (EndOfContents size) = 0
kind_contents (Unreadable octets) = length octets.now
kind_contents (Cut header contents) = header.announced
kind_contents (Opened header contents joined) = header.announced
kind_contents (Leaf header contents value) = header.announced

-- whether the length of a piece is of the indefinite form
abbrev pub kind_indefinite : PieceKind → Bool
kind_indefinite (EndOfContents size) = false
kind_indefinite (Unreadable octets) = false
kind_indefinite (Cut header contents) = header.is_indefinite
kind_indefinite (Opened header contents joined) = header.is_indefinite
kind_indefinite (Leaf header contents value) = header.is_indefinite

-- whether a piece is an encoding
abbrev pub kind_encoding : PieceKind → Bool
kind_encoding (EndOfContents size) = false
kind_encoding (Unreadable octets) = false
kind_encoding (Cut header contents) = true
kind_encoding (Opened header contents joined) = true
kind_encoding (Leaf header contents value) = true

-- the name of the type of a piece, or its tag
abbrev pub kind_type_name : PieceKind → List ℕ
kind_type_name (EndOfContents size) = codes "end-of-contents"
kind_type_name (Unreadable octets) = codes "unreadable"
kind_type_name (Cut header contents) = tag_name header.class header.tag
kind_type_name (Opened header contents joined) = tag_name header.class header.tag
kind_type_name (Leaf header contents value) = tag_name header.class header.tag

-- the value of a primitive encoding, if it has one
abbrev pub kind_meaning : PieceKind → Option LeafValue
kind_meaning (EndOfContents size) = None
kind_meaning (Unreadable octets) = None
kind_meaning (Cut header contents) = None
kind_meaning (Opened header contents joined) = None
kind_meaning (Leaf header contents value) = value

-- what the line of a piece of the kind begins with, at the offset, inside so many encodings
abbrev pub kind_front : ℕ → ℕ → List Rule → Bool → PieceKind → Front
kind_front offset depth rules spare kind = record {
  offset = offset;
  header = kind_header kind;
  contents = kind_contents kind;
  indefinite = kind_indefinite kind;
  depth = depth;
  encoding = kind_encoding kind;
  type_name = kind_type_name kind;
  rules = rules;
  has_spare_bits = spare;
  meaning = kind_meaning kind;
}

-- what the line of a piece begins with in the octets that it is a piece of
abbrev pub front_of : ℕ → Piece → Front
front_of depth piece =
    kind_front piece.offset depth piece.breaches.rules.items piece.breaches.has_spare_bits piece.kind

-- an encoding that is cut short announces more than is left, and a whole one no more
abbrev pub IsSized : List ℕ → PieceKind → Type 0
IsSized left (EndOfContents size) = ⊤
IsSized left (Unreadable octets) = ⊤
IsSized left (Cut header contents) = length left < header.size + header.announced
IsSized left (Opened header contents joined) = header.size + header.announced ≤ length left
IsSized left (Leaf header contents value) = header.size + header.announced ≤ length left

-- the encodings that a piece holds are the octets of a string, which is whole
abbrev pub IsHolding : List ℕ → PieceKind → Place → Option Nested → Type 0
IsHolding left kind place nested =
    IfSome nested (λ n. (0 < place.documents) × (kind_header kind + kind_contents kind ≤ length left)
    × HoldsBehind (kind_type_name kind)
    (slice_range left (kind_header kind) (kind_header kind + kind_contents kind)) n.before n.octets.now)

-- the piece begins what is left here
pub record IsPiece (here : Here) (piece : Piece) : Type 0 where
  pub line : (depth : ℕ) → IsNextLine here.left.is_indefinite here.offset depth here.left.octets.now piece.step
      (front_of depth piece) (fault_offset piece.fault)
  pub sized : IsSized here.left.octets.now piece.kind
  pub offset_is : piece.offset ≡ here.offset
  pub place_is : piece.place ≡ here.place.now
  pub holding : IsHolding here.left.octets.now piece.kind here.place.now piece.nested

-- the lines of octets begin with these, up to the cursor, and these are the offsets of faults
abbrev pub IsAt : List ℕ → List Front → List ℕ → Cursor → Type 0
IsAt octets fronts faults cursor = HasGone AddsLine octets false ([], []) cursor (fronts, faults)

-- no lines are left for the walk
abbrev pub HasEnded : Walk → Type 0
HasEnded walk =
    (octets : List ℕ) (fronts : List Front) (faults : List ℕ) → IsAt octets fronts faults walk.cursor →
    AreFrontsOf octets fronts faults

-- a walk came from one place to the next by the piece, which begins what is left of the contents octets around it
pub record Passes (old new : Walk) (piece : Piece) : Type 0 where
  pub levels : ℕ
  pub end : End
  pub around : List End
  pub left : List ℕ
  pub here : (octets : List ℕ) (fronts : List Front) (faults : List ℕ) → IsAt octets fronts faults old.cursor
      → LinesTo octets piece.offset (end ∷ around) fronts faults
  pub ahead : (octets : List ℕ) (fronts : List Front) (faults : List ℕ) → IsAt octets fronts faults old.cursor
      → IsAt octets (fronts ++ front_of levels piece ∷ []) (faults ++ fault_offset piece.fault) new.cursor
  pub left_is : left ≡ slice_range old.cursor.octets.now piece.offset end.offset
  pub sized : IsSized left piece.kind
  pub inside : piece.place.is_inside ≡ old.place.is_inside
  pub base : piece.place.base ≡ old.place.base
  pub depth : piece.place.depth ≡ old.place.depth + levels
  pub documents : piece.place.documents ≡ old.place.documents
  pub style : piece.place.style ≡ old.place.style
  pub holding : IsHolding left piece.kind piece.place piece.nested
  pub less : to_go new.cursor < to_go old.cursor
  pub same_place : new.place ≡ old.place
