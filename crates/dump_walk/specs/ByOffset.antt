-- Elements by the offsets of their lines: octets have one for each encoding, and a string may hold octets that do, too.
use Rattle.std.specs.Prelude.{◌≡◌, ◌≢◌, ◌⊎◌, ℕ, suc, ◌+◌, ◌<◌, ◌≤◌, true, false, List, [], ◌∷◌, ◌++◌, codes, length, slice_range, Result, Ok, Err}
use Rattle.std.specs.List.{AllByRecursion}
use Rattle.dump_walk.specs.Fronts.{AreFrontsOf, Front, HoldsBehind, LinesTo}
use Rattle.dump_walk.specs.declared.block.Block.{Block}
use Rattle.dump_walk.specs.declared.block.NoBlock.{NoBlock}
use Rattle.dump_walk.specs.declared.block.NoBlock.TheVariants.{CutShort, EndOfContents, Nothing, Unreadable}
use Rattle.dump_walk.specs.declared.cursor.End.{End}

-- the lines of octets begin with these, up to the offset, where contents octets that end so are open, the innermost
-- first
abbrev pub ComeTo : List ℕ → List Front → ℕ → List End → Type 0
ComeTo octets fronts offset ends = (faults : List ℕ) × LinesTo octets offset ends fronts faults

-- the lines of octets begin with these; others may follow
abbrev pub BeginWith : List ℕ → List Front → Type 0
BeginWith octets fronts = (offset : ℕ) × (ends : List End) × ComeTo octets fronts offset ends

-- the lines of octets are these; or begin with these, and the next is such a one
abbrev pub GoUpTo : List ℕ → List Front → (Front → Type 0) → Type 0
GoUpTo octets fronts Is =
    ((faults : List ℕ) × AreFrontsOf octets fronts faults)
    ⊎ ((next : Front) × BeginWith octets (fronts ++ next ∷ []) × Is next)

-- a line is of something else than an encoding, with these words
abbrev pub IsOther : List ℕ → Front → Type 0
IsOther words front = (front.encoding ≡ false) × (front.type_name ≡ words)

-- a line is that of so many end-of-contents octets
abbrev pub IsEndLine : ℕ → Front → Type 0
IsEndLine size front = IsOther (codes "end-of-contents") front × (front.header ≡ size)

-- a line stands inside an element that stands so deep, and is not that of the end-of-contents octets of this
abbrev pub IsNoEndOf : ℕ → Front → Type 0
IsNoEndOf depth front = (depth < front.depth) × (IsEndLine 2 front → front.depth ≡ suc depth → ⊥)

-- behind these lines stands that of an encoding, at the offset. So many octets are left from there to the end of the
-- contents octets around it, or of all octets
pub record HasLineAt (octets : List ℕ) (offset : ℕ) (before : List Front) (front : Front) (left : ℕ)
    : Type 0 where
  pub end : End
  pub around : List End
  pub come : ComeTo octets before offset (end ∷ around)
  pub begin : BeginWith octets (before ++ front ∷ [])
  pub offset_is : front.offset ≡ offset
  pub encoding : front.encoding ≡ true
  pub left_is : left ≡ length (slice_range octets offset end.offset)

-- the element whose line stands at the offset, and its contents octets: those that its header announces; or of the
-- indefinite form those before the end-of-contents octets whose line is the last of those inside it
pub data IsElementAt (octets : List ℕ) (offset : ℕ) (block contents : List ℕ) : Type 0 where
  of_definite_length :
      (before : List Front) (front : Front) (left : ℕ) →
      HasLineAt octets offset before front left → front.indefinite ≡ false →
      front.header + front.contents ≤ left →
      block ≡ slice_range octets offset (offset + (front.header + front.contents)) →
      contents ≡ slice_range octets (offset + front.header) (offset + (front.header + front.contents)) →
      IsElementAt octets offset block contents
  of_indefinite_form :
      (before : List Front) (front : Front) (left : ℕ) (inside : List Front) (end : Front) →
      HasLineAt octets offset before front left → front.indefinite ≡ true →
      BeginWith octets ((before ++ front ∷ []) ++ (inside ++ end ∷ [])) →
      AllByRecursion (IsNoEndOf front.depth) inside → IsEndLine 2 end → end.depth ≡ suc front.depth →
      block ≡ slice_range octets offset (end.offset + 2) →
      contents ≡ slice_range octets (offset + front.header) end.offset →
      IsElementAt octets offset block contents

-- a line does not stand at the offset, or is that of end-of-contents octets that are missing
abbrev pub IsElsewhere : ℕ → Front → Type 0
IsElsewhere offset front = (front.offset ≢ offset) ⊎ IsEndLine 0 front

-- what the line says that stands where no encoding does
abbrev pub IsLineOf : NoBlock → Front → Type 0
IsLineOf EndOfContents front = IsOther (codes "end-of-contents") front
IsLineOf Unreadable front = IsOther (codes "unreadable") front
IsLineOf CutShort front = ⊥
IsLineOf Nothing front = ⊥

-- no whole element has a line at the offset: all lines stand elsewhere, or those up to one behind it; the line there is
-- that of something else; or the element there is cut short: more is announced than is left of what is around it, or
-- none of the lines inside is that of its end
pub data HasNoElementAt (octets : List ℕ) (offset : ℕ) (why : NoBlock) : Type 0 where
  no_line :
      (fronts : List Front) → why ≡ Nothing → AllByRecursion (IsElsewhere offset) fronts →
      GoUpTo octets fronts (λ next. offset < next.offset) → HasNoElementAt octets offset why
  of_other :
      (before : List Front) (front : Front) → BeginWith octets (before ++ front ∷ []) →
      front.offset ≡ offset →
      IsLineOf why front → HasNoElementAt octets offset why
  too_short :
      (before : List Front) (front : Front) (left : ℕ) → why ≡ CutShort →
      HasLineAt octets offset before front left → left < front.header + front.contents →
      HasNoElementAt octets offset why
  without_end :
      (before : List Front) (front : Front) (left : ℕ) (inside : List Front) → why ≡ CutShort →
      HasLineAt octets offset before front left → front.indefinite ≡ true →
      AllByRecursion (IsNoEndOf front.depth) inside →
      GoUpTo octets ((before ++ front ∷ []) ++ inside) (λ next. next.depth ≤ front.depth) →
      HasNoElementAt octets offset why

-- what has lines of its own where the offset stands: the octets, or those of a string in them that has a line; and how
-- far the offset stands in it
pub data LeadsTo : List ℕ → ℕ → List ℕ → ℕ → Type 0 where
  itself :
      {octets : List ℕ} {offset : ℕ} {others : List ℕ} {further : ℕ} →
      others ≡ octets → further ≡ offset → LeadsTo octets offset others further
  inside_string :
      {octets : List ℕ} {offset : ℕ} {others : List ℕ} {further : ℕ} (before : List Front) (front : Front)
      (skipped : ℕ) (string : List ℕ) (nearer : ℕ) →
      BeginWith octets (before ++ front ∷ []) →
      HoldsBehind front.type_name
      (slice_range octets (front.offset + front.header) (front.offset + (front.header + front.contents))) skipped
      string →
      offset ≡ front.offset + (front.header + (skipped + nearer)) → nearer < length string →
      LeadsTo string nearer others further → LeadsTo octets offset others further

-- the element whose line stands at the offset of octets, or of those of a string in them
abbrev pub HasElementAt : List ℕ → ℕ → List ℕ → List ℕ → Type 0
HasElementAt octets offset block contents =
    (others : List ℕ) × (further : ℕ) × LeadsTo octets offset others further
    × IsElementAt others further block contents

-- no whole element has its line there, and why
abbrev pub LacksElementAt : List ℕ → ℕ → NoBlock → Type 0
LacksElementAt octets offset why =
    (others : List ℕ) × (further : ℕ) × LeadsTo octets offset others further × HasNoElementAt others further why

-- what was found of octets that have lines of their own
abbrev pub IsFoundAt : List ℕ → ℕ → Result Block NoBlock → Type 0
IsFoundAt octets offset (Ok block) = IsElementAt octets offset block.octets.now block.contents.now
IsFoundAt octets offset (Err why) = HasNoElementAt octets offset why

-- what was found
abbrev pub Finds : List ℕ → ℕ → Result Block NoBlock → Type 0
Finds octets offset found =
    (others : List ℕ) × (further : ℕ) × LeadsTo octets offset others further × IsFoundAt others further found
