-- The reader, and what its steps do, whatever is built of the blocks.
use Rattle.std.specs.Prelude.{◌≡◌, ◌≢◌, ℕ, ◌+◌, ◌*◌, ◌-◌, ◌<◌, ◌≤◌, ◌++◌, Bool, true, false, List, [], ◌∷◌, length, reverse, slice_range, Option, Some, None, Result, Ok, Err}
use Rattle.asn1_headers.specs.declared.header.ASN1Class.TheVariants.{Universal}
use Rattle.asn1_blocks.specs.declared.parsed.PlacedHeader.{PlacedHeader}
use Rattle.asn1_headers.specs.declared.error.ASN1DecodeErr.{ASN1DecodeErr}
use Rattle.asn1_blocks.specs.declared.read_loop.Attempt as declared
use Rattle.asn1_blocks.specs.declared.read_loop.Extent.{Extent}
use Rattle.asn1_blocks.specs.declared.read_loop.FrameKind.{FrameKind}
use Rattle.asn1_blocks.specs.declared.read_loop.FrameKind.TheVariants.{Whole}
use Rattle.asn1_blocks.specs.declared.read_loop.OpenFrame.{OpenFrame}
use Rattle.asn1_blocks.specs.declared.read_loop.Reader.{Reader}
use Rattle.asn1_headers.specs.Fault.{DecodeFault, OutOfMemoryOr}
use Rattle.asn1_blocks.specs.Contents.{LeafFault}
use Rattle.asn1_blocks.specs.Grammar.{AreBlocks, BlocksFaultAt, Encodes, EncodesAll, IsDocument}
use Rattle.asn1_blocks.specs.HeadersBegun.{HeadersBegun}
use Rattle.asn1_blocks.specs.Inner.OpenFrames.{AreOpen, Frame, IsAttemptAt, IsEnded, IsHeaded, IsKindOf, IsStopping, as_it_came}
use Rattle.asn1_blocks.specs.Tree.{Tree, trees_of}

-- what a builder was given: these trees in the frames that are open, the innermost first
abbrev pub Holding : Type 0 → Type 0 → Type 1
Holding B I = List ℕ → B → List (OpenFrame I) → List (List (Tree ℕ)) → Type 0

abbrev pub in_frame : {I : Type 0} → Extent → I → OpenFrame I
in_frame e items = record { extent = e; items = items }

-- the contents octets of an encoding at the offset with the header
abbrev pub opened_at : ℕ → FrameKind → PlacedHeader → Extent
opened_at offset kind h = record { kind = kind; offset = offset; start = h.start; end = h.end }

-- the builder a became b, and has a new frame with these items, for an encoding with this header
pub record HasOpened {B I : Type 0} (Holds : Holding B I) (octets : List ℕ) (h : PlacedHeader) (offset depth : ℕ)
    (a : B) (items : I) (b : B) : Type 0 where
  pub holds : (kind : FrameKind) (f : OpenFrame I) (fs : List (OpenFrame I)) (trees : List (List (Tree ℕ))) →
      depth ≡ length fs → IsKindOf kind h → Holds octets a (f ∷ fs) trees →
      Holds octets b (in_frame (opened_at offset kind h) items ∷ f ∷ fs) ([] ∷ trees)

-- the innermost frame, whose items were i and are j, has one tree more
pub record HasMore {B I : Type 0} (Holds : Holding B I) (octets : List ℕ) (t : Tree ℕ) (depth : ℕ)
    (a : B) (i : I) (b : B) (j : I) : Type 0 where
  pub holds : (e : Extent) (fs : List (OpenFrame I)) (ts : List (Tree ℕ)) (rest : List (List (Tree ℕ))) →
      depth ≡ length fs → Holds octets a (in_frame e i ∷ fs) (ts ∷ rest) →
      Holds octets b (in_frame e j ∷ fs) ((ts ++ t ∷ []) ∷ rest)

-- the innermost frame has one tree more, which the octets from the offset to the end encode
pub record HasLeaf {B I : Type 0} (Holds : Holding B I) (octets : List ℕ) (offset end depth : ℕ)
    (a : B) (i : I) (b : B) (j : I) : Type 0 where
  pub tree : Tree ℕ
  pub encoded : Encodes offset (slice_range octets offset end) tree
  pub more : HasMore Holds octets tree depth a i b j

-- the contents octets of the leaf are at fault, and all is as it was
pub record IsLeafFault {B I : Type 0} (octets : List ℕ) (h : PlacedHeader) (a : B) (i : I) (b : B) (j : I)
    (e : DecodeFault) : Type 0 where
  pub builder : b ≡ a
  pub items : j ≡ i
  pub class : h.class ≡ Universal
  pub fault : LeafFault h.tag (slice_range octets h.start h.end) e

-- a frame can end in another one
pub record CanEnd {B I : Type 0} (Holds : Holding B I) (octets : List ℕ) (f : OpenFrame I) (depth : ℕ)
    (a : B) (i : I) : Type 0 where
  pub kind : f.extent.kind ≢ Whole
  pub after : f.extent.offset < f.extent.start
  pub order : f.extent.start ≤ f.extent.end
  pub within : f.extent.end ≤ length octets
  pub extent : Extent
  pub outer : List (OpenFrame I)
  pub deep : depth ≡ length outer
  pub trees : List (List (Tree ℕ))
  pub holds : Holds octets a (f ∷ in_frame extent i ∷ outer) trees

-- contents octets that were read to their end, and encode these trees, are those of this tree
pub record EndsAs (octets : List ℕ) (e : Extent) (ts : List (Tree ℕ)) (t : Tree ℕ) : Type 0 where
  pub tree : IsEnded octets e.kind e.offset e.start e.end ts t
  pub headed : IsHeaded octets e.kind e.offset e.start e.end
  pub after : e.offset < e.start
  pub order : e.start ≤ e.end
  pub encoded : EncodesAll e.start (slice_range octets e.start e.end) (trees_of ts)

-- the frame ended: the one around it, whose items were i and are j, has its tree
pub record HasEndedIn {B I : Type 0} (Holds : Holding B I) (octets : List ℕ) (f : OpenFrame I) (depth : ℕ)
    (a : B) (i : I) (b : B) (j : I) : Type 0 where
  pub holds : (e : Extent) (fs : List (OpenFrame I)) (ts us : List (Tree ℕ)) (rest : List (List (Tree ℕ)))
      (t : Tree ℕ) → depth ≡ length fs → EndsAs octets f.extent ts t →
      Holds octets a (f ∷ in_frame e i ∷ fs) (ts ∷ us ∷ rest) →
      Holds octets b (in_frame e j ∷ fs) ((us ++ t ∷ []) ∷ rest)

-- the frame is an attempt that can be kept
pub record CanBeKept (octets : List ℕ) (e : Extent) : Type 0 where
  pub attempt : declared.Attempt
  pub offset : attempt.offset ≡ e.offset
  pub headed : IsAttemptAt octets attempt e.start e.end
  pub after : e.offset < e.start
  pub order : e.start ≤ e.end
  pub within : e.end ≤ length octets

-- a fault ended the attempt, and the frames inside it are gone: the frame around it, whose items were i and are j, has
-- the encoding as it came
pub record HasKept {B I : Type 0} (Holds : Holding B I) (octets : List ℕ) (f : OpenFrame I) (depth : ℕ)
    (a : B) (i : I) (b : B) (j : I) : Type 0 where
  pub holds : (inside : List (OpenFrame I)) (lost : List (List (Tree ℕ))) (e : Extent) (fs : List (OpenFrame I))
      (ts us : List (Tree ℕ)) (rest : List (List (Tree ℕ))) (k : declared.Attempt) → depth ≡ length fs →
      length inside ≡ length lost → k.offset ≡ f.extent.offset →
      IsAttemptAt octets k f.extent.start f.extent.end →
      (AreBlocks (slice_range octets f.extent.start f.extent.end) → ⊥) →
      Holds octets a (inside ++ f ∷ in_frame e i ∷ fs) (lost ++ ts ∷ us ∷ rest) →
      Holds octets b (in_frame e j ∷ fs) ((us ++ as_it_came octets k f.extent.start f.extent.end ∷ []) ∷ rest)

abbrev pub frame : {I : Type 0} → OpenFrame I → List (Tree ℕ) → Frame
frame f ts = record { extent = f.extent; trees = ts }

abbrev pub frames : {I : Type 0} → List (OpenFrame I) → List (List (Tree ℕ)) → List Frame
frames [] rest = []
frames (f ∷ fs) [] = []
frames (f ∷ fs) (ts ∷ rest) = frame f ts ∷ frames fs rest

-- the frames are open and all is read up to the offset reached; n headers were begun
pub record Reads {B I : Type 0} (Holds : Holding B I) (octets : List ℕ)
    (b : B) (f : OpenFrame I) (gs : List (OpenFrame I)) (reached n : ℕ) : Type 0 where
  pub trees : List (Tree ℕ)
  pub outer : List (List (Tree ℕ))
  pub matched : length gs ≡ length outer
  pub holds : Holds octets b (f ∷ gs) (trees ∷ outer)
  pub opened : AreOpen octets (frame f trees) (frames gs outer) reached n

abbrev pub IsReading : {B I : Type 0} → Holding B I → List ℕ → Reader B I → ℕ → Type 0
IsReading Holds octets r n = Reads Holds octets r.builder r.inner (reverse r.outer.items) r.index n

-- a fault is in the frame, of a block at the offset; frames inside it were dropped
pub record IsRefused {B I : Type 0} (Holds : Holding B I) (octets : List ℕ)
    (b : B) (f : OpenFrame I) (gs : List (OpenFrame I)) (e : DecodeFault) (offset n : ℕ) : Type 0 where
  pub trees : List (Tree ℕ)
  pub outer : List (List (Tree ℕ))
  pub inside : List (OpenFrame I)
  pub lost : List (List (Tree ℕ))
  pub matched : length gs ≡ length outer
  pub dropped : length inside ≡ length lost
  pub holds : Holds octets b (inside ++ f ∷ gs) (lost ++ trees ∷ outer)
  pub stopping : IsStopping octets (frame f trees) (frames gs outer) e offset n

-- how much is left to do: each turn goes on in the octets, or closes a frame, and an encoding that is opened takes two
-- octets
abbrev pub work_left : {A : Type 0} → ℕ → ℕ → List A → ℕ
work_left size index outer = 2 * (size - index) + length outer

-- a fault in the innermost frame, of the block that the reader has come to, with less left to do behind it
pub record IsFaulty {B I : Type 0} (Holds : Holding B I) (octets : List ℕ) (r : Reader B I)
    (e : DecodeFault) (n most : ℕ) : Type 0 where
  pub refused : IsRefused Holds octets r.builder r.inner (reverse r.outer.items) e r.index n
  pub nearer : work_left (length octets) r.inner.extent.end r.outer.items ≤ most

-- reading goes on, with less left to do
pub record GoesOn {B I : Type 0} (Holds : Holding B I) (octets : List ℕ) (r : Reader B I)
    (n most : ℕ) : Type 0 where
  pub reading : IsReading Holds octets r n
  pub nearer : work_left (length octets) r.index r.outer.items < most

-- where a step leads: reading goes on, memory ran out, or there is a fault in the innermost frame
abbrev pub HasStepped : {A B I : Type 0} → Holding B I → List ℕ → Result A ASN1DecodeErr → Reader B I
    → ℕ → ℕ → Type 0
HasStepped Holds octets (Ok x) r n most = GoesOn Holds octets r n most
HasStepped Holds octets (Err e) r n most = OutOfMemoryOr (λ fault. IsFaulty Holds octets r fault n most) e

-- the fault is that of the document, of a block at the offset
pub record IsFaultyDocument (octets : List ℕ) (e : DecodeFault) (offset n : ℕ) : Type 0 where
  pub fault : BlocksFaultAt octets e offset
  pub begun : HeadersBegun octets n

-- the whole document was read
pub record HasEnded {B I : Type 0} (Holds : Holding B I) (octets : List ℕ) (r : Reader B I) (n : ℕ) : Type 0 where
  pub trees : List (Tree ℕ)
  pub holds : Holds octets r.builder (r.inner ∷ []) (trees ∷ [])
  pub encoded : EncodesAll 0 octets (trees_of trees)
  pub begun : HeadersBegun octets n

-- where a fault leads: reading goes on behind the innermost attempt, or it stops
abbrev pub HasRecovered : {B I : Type 0} → Holding B I → List ℕ → Bool → Reader B I → ℕ → ℕ → Type 0
HasRecovered Holds octets true r n most = GoesOn Holds octets r n most
HasRecovered Holds octets false r n most = OutOfMemoryOr (λ fault. IsFaultyDocument octets fault r.index n) r.fault

-- what a step leads to; with none, the whole document was read
abbrev pub IsStepped : {B I : Type 0} → Holding B I → List ℕ → Option (Result (Unit {0}) ASN1DecodeErr)
    → Reader B I → ℕ → ℕ → Type 0
IsStepped Holds octets None r n most = HasEnded Holds octets r n
IsStepped Holds octets (Some step) r n most = HasStepped Holds octets step r n most

-- what a step leads to, and how many headers were begun since the count was at the base
pub record HasTakenStep {B I : Type 0} (Holds : Holding B I) (octets : List ℕ)
    (step : Option (Result (Unit {0}) ASN1DecodeErr)) (r : Reader B I) (count base most : ℕ) : Type 0 where
  pub begun : ℕ
  pub counted : count ≡ base + begun
  pub bounded : begun ≤ length octets
  pub stepped : IsStepped Holds octets step r begun most

-- reading goes on inside a new frame, the innermost from now on
pub record IsEntered {B I : Type 0} (a : Reader B I) (f : OpenFrame I) (r : Reader B I) : Type 0 where
  pub inner : r.inner ≡ f
  pub outer : r.outer.items ≡ a.outer.items ++ a.inner ∷ []
  pub builder : r.builder ≡ a.builder
  pub index : r.index ≡ f.extent.start

-- nothing is read yet
abbrev pub StartsEmpty : {B I : Type 0} → Holding B I → List ℕ → B → I → Type 0
StartsEmpty Holds octets b items =
    Holds octets b (in_frame (record { kind = Whole; offset = 0; start = 0; end = length octets }) items ∷ [])
    ([] ∷ [])

-- the builder holds the trees of the document
pub record HasDocument {B I : Type 0} (Holds : Holding B I) (octets : List ℕ) (b : B) (items : I) : Type 0 where
  pub trees : List (Tree ℕ)
  pub extent : Extent
  pub document : IsDocument octets (trees_of trees)
  pub holds : Holds octets b (in_frame extent items ∷ []) (trees ∷ [])
