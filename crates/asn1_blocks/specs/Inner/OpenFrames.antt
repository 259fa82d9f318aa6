-- The frames that are open while a document is read.
use Rattle.std.specs.Prelude.{◌≡◌, ◌≢◌, ℕ, ◌+◌, ◌-◌, ◌<◌, ◌≤◌, Bool, true, false, List, [], ◌∷◌, length, slice_range}
use Rattle.asn1_blocks.specs.declared.block.GroupKind.{GroupKind}
use Rattle.asn1_headers.specs.declared.header.ASN1Class.TheVariants.{Universal}
use Rattle.asn1_blocks.specs.declared.read_loop.Attempt as declared
use Rattle.asn1_blocks.specs.declared.parsed.PlacedHeader.{PlacedHeader}
use Rattle.asn1_blocks.specs.declared.read_loop.Extent.{Extent}
use Rattle.asn1_blocks.specs.declared.read_loop.FrameKind.{FrameKind}
use Rattle.asn1_blocks.specs.declared.read_loop.FrameKind.TheVariants.{Whole, Group, Attempt}
use Rattle.asn1_headers.specs.Fault.{DecodeFault}
use Rattle.asn1_blocks.specs.Tree.{Tree, explicit, group, trees_of, unknown}
use Rattle.asn1_blocks.specs.Contents.{group_tag}
use Rattle.asn1_blocks.specs.Grammar.{EncodesAll}
use Rattle.asn1_blocks.specs.Inner.BlockFault.{BlockFaultAt}
use Rattle.asn1_blocks.specs.HeadersBegun.{HeadersBegun}
use Rattle.asn1_blocks.specs.Places.{IsEncodingBetween}

-- the frame is of an encoding with this header
abbrev pub IsKindOf : FrameKind → PlacedHeader → Type 0
IsKindOf Whole h = ⊥
IsKindOf (Group g) h = (h.class ≡ Universal) × (h.tag ≡ group_tag g)
IsKindOf Attempt h = (h.class ≢ Universal) × (h.constructed ≡ true)

-- whether the frame is an attempt
abbrev pub is_attempt : FrameKind → Bool
is_attempt Whole = false
is_attempt (Group g) = false
is_attempt Attempt = true

-- an attempt that ended with one block, and one that stays as it came
abbrev pub around : declared.Attempt → Tree ℕ → Tree ℕ
around a item = explicit a.class a.offset a.tag item

abbrev pub as_it_came : List ℕ → declared.Attempt → ℕ → ℕ → Tree ℕ
as_it_came octets a start end = unknown a.class true a.offset a.tag (slice_range octets start end)

abbrev pub attempt_tree : List ℕ → declared.Attempt → ℕ → ℕ → List (Tree ℕ) → Tree ℕ
attempt_tree octets a start end [] = as_it_came octets a start end
attempt_tree octets a start end (t ∷ []) = around a t
attempt_tree octets a start end (t ∷ u ∷ ts) = as_it_came octets a start end

-- contents octets that are being read, and the trees so far
pub record Frame : Type 0 where
  pub extent : Extent
  pub trees : List (Tree ℕ)

-- the contents octets up to an offset are the trees, with n headers
pub record IsReadTo (octets : List ℕ) (f : Frame) (reached n : ℕ) : Type 0 where
  pub from : f.extent.start ≤ reached
  pub to : reached ≤ f.extent.end
  pub within : f.extent.end ≤ length octets
  pub encoded : EncodesAll f.extent.start (slice_range octets f.extent.start reached)
      (trees_of f.trees)
  pub begun : HeadersBegun (slice_range octets f.extent.start reached) n

-- a SEQUENCE or SET at the offset has these contents octets
pub record IsGroupAt (octets : List ℕ) (g : GroupKind) (offset start end : ℕ) : Type 0 where
  pub constructed : Bool
  pub encoding : IsEncodingBetween octets Universal constructed (group_tag g) offset start end

-- a constructed encoding of another class than Universal has these contents octets
pub record IsAttemptAt (octets : List ℕ) (a : declared.Attempt) (start end : ℕ) : Type 0 where
  pub other : a.class ≢ Universal
  pub encoding : IsEncodingBetween octets a.class true a.tag a.offset start end

-- whichever attempt begins at the offset and ends there, it is this one
abbrev pub IsAttemptAlone : List ℕ → ℕ → ℕ → declared.Attempt → Type 0
IsAttemptAlone octets offset end a =
    (b : declared.Attempt) (start : ℕ) → b.offset ≡ offset → IsAttemptAt octets b start end → a ≡ b

-- the header at the offset stands before these contents octets
abbrev pub IsHeaded : List ℕ → FrameKind → ℕ → ℕ → ℕ → Type 0
IsHeaded octets Whole offset start end = ⊥
IsHeaded octets (Group g) offset start end = IsGroupAt octets g offset start end
IsHeaded octets Attempt offset start end =
    (a : declared.Attempt) × (a.offset ≡ offset) × IsAttemptAt octets a start end

-- a frame that ended with these trees is this tree
abbrev pub IsEnded : List ℕ → FrameKind → ℕ → ℕ → ℕ → List (Tree ℕ) → Tree ℕ → Type 0
IsEnded octets Whole offset start end ts t = ⊥
IsEnded octets (Group g) offset start end ts t = t ≡ group offset g (trees_of ts)
IsEnded octets Attempt offset start end ts t =
    (a : declared.Attempt) × (a.offset ≡ offset) × IsAttemptAt octets a start end
    × (t ≡ attempt_tree octets a start end ts)

-- the frame of the document
pub record IsDocumentFrame (octets : List ℕ) (f : Frame) : Type 0 where
  pub kind : f.extent.kind ≡ Whole
  pub start : f.extent.start ≡ 0
  pub end : f.extent.end ≡ length octets

-- a frame is read up to the offset reached inside another one, which is read up to the offset of its header. So n
-- headers were begun: those before it, its own, and those inside
pub record IsInside (octets : List ℕ) (f g : Frame) (Around : ℕ → ℕ → Type 0) (reached n : ℕ) : Type 0
  where
    pub before : ℕ
    pub own : ℕ
    pub headed : IsHeaded octets f.extent.kind f.extent.offset f.extent.start f.extent.end
    pub after : f.extent.offset < f.extent.start
    pub ends_within : f.extent.end ≤ g.extent.end
    pub read : IsReadTo octets f reached own
    pub around : Around f.extent.offset before
    pub total : n ≡ before + (1 + own)

-- the outermost frame is read up to the offset reached
pub record IsOfDocument (octets : List ℕ) (f : Frame) (reached n : ℕ) : Type 0 where
  pub whole : IsDocumentFrame octets f
  pub read : IsReadTo octets f reached n

-- the frames lie in one another, the innermost first; all is read up to the offset reached, with n headers
abbrev pub AreOpen : List ℕ → Frame → List Frame → ℕ → ℕ → Type 0
AreOpen octets f [] reached n = IsOfDocument octets f reached n
AreOpen octets f (g ∷ gs) reached n = IsInside octets f g (λ o b. AreOpen octets g gs o b) reached n

-- the block at the offset reached is at fault, and the innermost block at fault begins at the offset
pub record StopsAt (octets : List ℕ) (f : Frame) (reached : ℕ) (e : DecodeFault) (offset n : ℕ)
    : Type 0 where
  pub here : reached < f.extent.end
  pub inside : ℕ
  pub stops :
      BlockFaultAt (reached - f.extent.start) (slice_range octets reached f.extent.end) e inside
  pub innermost : offset ≡ reached + inside
  pub begun : HeadersBegun (slice_range octets reached f.extent.end) n

-- the block at some offset of the innermost frame is at fault, the innermost block at fault begins at the offset, and n
-- headers were begun
pub record IsStopping (octets : List ℕ) (f : Frame) (gs : List Frame) (e : DecodeFault)
    (offset n : ℕ) : Type 0 where
  pub reached : ℕ
  pub before : ℕ
  pub own : ℕ
  pub opened : AreOpen octets f gs reached before
  pub stops : StopsAt octets f reached e offset own
  pub total : n ≡ before + own
