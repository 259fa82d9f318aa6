-- How an element is looked for by its offset, step by step. Private contracts alone name these.
use Rattle.std.specs.Prelude.{◌≡◌, ℕ, suc, ◌+◌, ◌<◌, ◌≤◌, List, [], ◌∷◌, ◌++◌, length, slice_range, ⊤}
use Rattle.std.specs.List.{AllByRecursion}
use Rattle.dump_walk.specs.ByOffset.{BeginWith, ComeTo, GoUpTo, IsEndLine, IsNoEndOf}
use Rattle.dump_walk.specs.Fronts.{Front, HoldsBehind}
use Rattle.dump_walk.specs.Pieces.{IsAt, IsHolding, IsSized, front_of, kind_contents, kind_header, kind_type_name}
use Rattle.dump_walk.specs.declared.block.Found.{Found}
use Rattle.dump_walk.specs.declared.block.Found.TheVariants.{Elsewhere, Passed, Within}
use Rattle.dump_walk.specs.declared.block.Inside.{Inside}
use Rattle.dump_walk.specs.declared.block.Next.{Next}
use Rattle.dump_walk.specs.declared.block.Next.TheVariants.{Behind, Deeper, Ended}
use Rattle.dump_walk.specs.declared.cursor.End.{End}
use Rattle.dump_walk.specs.declared.piece.Piece.{Piece}
use Rattle.dump_walk.specs.declared.piece.PieceKind.{PieceKind}
use Rattle.dump_walk.specs.declared.piece.PieceKind.TheVariants.{Cut, EndOfContents, Leaf, Opened, Unreadable}
use Rattle.dump_walk.specs.declared.walk.Walk.{Walk}

-- the walk has passed the first lines of octets, which are these
abbrev pub HasPassed : List ℕ → List Front → Walk → Type 0
HasPassed octets fronts walk = (faults : List ℕ) × IsAt octets fronts faults walk.cursor

-- the last of the lines that the walk has passed is that of the piece
pub record HasCome (octets : List ℕ) (before : List Front) (walk : Walk) (piece : Piece) : Type 0 where
  pub levels : ℕ
  pub end : End
  pub around : List End
  pub left : List ℕ
  pub come : ComeTo octets before piece.offset (end ∷ around)
  pub passed : HasPassed octets (before ++ front_of levels piece ∷ []) walk
  pub depth : piece.place.depth ≡ walk.place.depth + levels
  pub left_is : left ≡ slice_range octets piece.offset end.offset
  pub sized : IsSized left piece.kind

-- a piece is a whole encoding, or a header of one of the indefinite form
abbrev pub IsWholeKind : PieceKind → Type 0
IsWholeKind (EndOfContents size) = ⊥
IsWholeKind (Unreadable octets) = ⊥
IsWholeKind (Cut header contents) = ⊥
IsWholeKind (Opened header contents joined) = ⊤
IsWholeKind (Leaf header contents value) = ⊤

-- what a piece is to an element that stands so deep in the document, and inside which the pieces before it are
abbrev pub IsNext : ℕ → Piece → Next → Type 0
IsNext depth piece Deeper =
    (depth < piece.place.depth) × (piece.kind ≡ EndOfContents 2 → piece.place.depth ≡ suc depth → ⊥)
IsNext depth piece (Ended offset) =
    (piece.kind ≡ EndOfContents 2) × (piece.place.depth ≡ suc depth) × (offset ≡ piece.offset)
IsNext depth piece Behind = piece.place.depth ≤ depth

-- the walk goes on by lines inside an element that stands so deep in the document, and by that of its end
abbrev pub EndsAt : Walk → ℕ → ℕ → Type 0
EndsAt walk depth end =
    (octets : List ℕ) (fronts : List Front) (levels : ℕ) → HasPassed octets fronts walk →
    depth ≡ walk.place.depth + levels →
    (inside : List Front) × (last : Front) × BeginWith octets (fronts ++ (inside ++ last ∷ []))
    × AllByRecursion (IsNoEndOf levels) inside × IsEndLine 2 last × (last.depth ≡ suc levels)
    × (last.offset ≡ end)

-- none of the lines by which the walk goes on inside the element is that of its end
abbrev pub HasNoEnd : Walk → ℕ → Type 0
HasNoEnd walk depth =
    (octets : List ℕ) (fronts : List Front) (levels : ℕ) → HasPassed octets fronts walk →
    depth ≡ walk.place.depth + levels →
    (inside : List Front) × AllByRecursion (IsNoEndOf levels) inside
    × GoUpTo octets (fronts ++ inside) (λ next. next.depth ≤ levels)

-- octets of the string that the piece is, in which an offset stands
abbrev pub StandsInside : Piece → ℕ → Inside → Type 0
StandsInside piece offset inside =
    (left : List ℕ) → IsHolding left piece.kind piece.place piece.nested →
    (kind_header piece.kind + kind_contents piece.kind ≤ length left)
    × (skipped : ℕ)
    × HoldsBehind (kind_type_name piece.kind)
    (slice_range left (kind_header piece.kind) (kind_header piece.kind + kind_contents piece.kind)) skipped
    inside.octets.now
    × (offset ≡ piece.offset + (kind_header piece.kind + (skipped + inside.offset)))
    × (inside.offset < length inside.octets.now)

-- where an offset stands at which the line of the piece may not: in octets of the string that the piece is, before it,
-- or elsewhere, if the line does not
abbrev pub IsFound : ℕ → Piece → Found → Type 0
IsFound offset piece (Within inside) =
    StandsInside piece offset inside × (piece.place.documents ≡ suc inside.place.documents)
IsFound offset piece Passed = offset < piece.offset
IsFound offset piece Elsewhere = ⊤
