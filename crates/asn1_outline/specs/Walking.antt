-- What is kept while headers are read. Private contracts alone name this.
use Rattle.std.specs.Prelude.{◌≡◌, ℕ, suc, ◌+◌, ◌<◌, ◌≤◌, ◌++◌, List, [], ◌∷◌, length, reverse, Result, Ok, Err}
use Rattle.std.specs.declared.alloc.AllocError.{AllocError}
use Rattle.asn1_headers.specs.Fault.{DecodeFault, OutOfMemoryOr}
use Rattle.asn1_headers.specs.declared.error.ASN1DecodeErr.TheVariants.{OutOfMemory}
use Rattle.asn1_blocks.specs.HeadersBegun.{IsReadInside}
use Rattle.asn1_blocks.specs.Inner.OpenFrames.{IsKindOf}
use Rattle.asn1_blocks.specs.Inner.ReaderSteps.{work_left}
use Rattle.asn1_blocks.specs.Places.{HeaderFound}
use Rattle.asn1_blocks.specs.declared.parsed.PlacedHeader.{PlacedHeader}
use Rattle.asn1_blocks.specs.declared.read_loop.OpenFrame.{OpenFrame}
use Rattle.asn1_blocks.specs.declared.read_loop.Reader.{Reader}
use Rattle.asn1_blocks.specs.declared.read_loop.Turn.{Turn}
use Rattle.asn1_blocks.specs.declared.read_loop.Turn.TheVariants.{More, End, Stop}
use Rattle.asn1_outline.specs.Listing.{KeepsOf}
use Rattle.asn1_outline.specs.Shapes.{AreShapes, HeadersFaultAt, Shapes, entries_of, shape_count, shape_entry}
use Rattle.asn1_outline.specs.declared.entry.Entry.{Entry}
use Rattle.asn1_outline.specs.declared.entry_builder.EntryBuilder.{EntryBuilder}
use Rattle.asn1_outline.specs.declared.listing.EntryItems.{EntryItems}

-- contents octets from the start to the end are read up to the offset reached: as many encodings as the count, with
-- these entries, the first at the index. Whatever encodings or fault the rest has, the whole has behind what was read
pub record WalksTo (document : List ℕ) (start end reached index depth count : ℕ) (own : List Entry) : Type 0 where
  pub from : start ≤ reached
  pub to : reached ≤ end
  pub within : end ≤ length document
  pub and_then : Shapes → Shapes
  pub shapes : (rest : Shapes) → AreShapes document reached end rest → AreShapes document start end (and_then rest)
  pub fault : (fault : DecodeFault) (offset : ℕ) → HeadersFaultAt document start reached end fault offset
      → HeadersFaultAt document start start end fault offset
  pub entries : (rest : Shapes)
      → entries_of index depth (and_then rest) ≡ own ++ entries_of (index + length own) depth rest
  pub counted : (rest : Shapes) → shape_count (and_then rest) ≡ count + shape_count rest

-- the outermost frame is that of the document
pub record IsOuter (document : List ℕ) (f : OpenFrame EntryItems) (reached : ℕ) (rs : List Entry)
    : Type 0 where
  pub start : f.extent.start ≡ 0
  pub end : f.extent.end ≡ length document
  pub read : WalksTo document f.extent.start f.extent.end reached 0 0 f.items.count rs

-- a frame is read up to the offset reached inside another one. The entries are those around it, its own, and those
-- inside it
pub record WalksIn (document : List ℕ) (f g : OpenFrame EntryItems) (depth : ℕ)
    (Around : ℕ → List Entry → Type 0) (reached : ℕ) (rs : List Entry) : Type 0 where
  pub offset : ℕ
  pub header : PlacedHeader
  pub front : List Entry
  pub own : List Entry
  pub whole : rs ≡ front ++ shape_entry offset header 0 (suc f.items.entry) depth ∷ own
  pub entry : f.items.entry ≡ length front
  pub found : HeaderFound document offset g.extent.end header
  pub inside : IsReadInside header.class header.constructed header.tag
  pub start : f.extent.start ≡ header.start
  pub end : f.extent.end ≡ header.end
  pub kind : IsKindOf f.extent.kind header
  pub read : WalksTo document f.extent.start f.extent.end reached (suc f.items.entry) (suc depth) f.items.count own
  pub around : Around offset front

-- the frames lie in one another, the innermost first, and all is read up to the offset reached
abbrev pub AllOpen : List ℕ → OpenFrame EntryItems → List (OpenFrame EntryItems) → ℕ → List Entry → Type 0
AllOpen document f [] reached rs = IsOuter document f reached rs
AllOpen document f (g ∷ gs) reached rs =
    WalksIn document f g (length gs) (λ offset front. AllOpen document g gs offset front) reached rs

-- the frames of the reader are open up to the offset that it reached, with entries of which the builder keeps the first
abbrev pub IsWalking : List ℕ → Reader EntryBuilder EntryItems → Type 0
IsWalking document w = (all : List Entry) × KeepsOf w.builder all
    × AllOpen document w.inner (reverse w.outer.items) w.index all

-- reading goes on, with less left to do
pub record HasWalkedOn (document : List ℕ) (w : Reader EntryBuilder EntryItems) (most : ℕ) : Type 0 where
  pub reading : IsWalking document w
  pub nearer : work_left (length document) w.index w.outer.items < most

-- the octets have this fault, or memory ran out
abbrev pub HasStopped : List ℕ → Reader EntryBuilder EntryItems → Type 0
HasStopped document w =
    OutOfMemoryOr (λ fault. HeadersFaultAt document 0 0 (length document) fault w.index) w.fault

-- the document has shapes, and the builder keeps the first of the entries of the shapes
abbrev pub WalksAll : List ℕ → Reader EntryBuilder EntryItems → Type 0
WalksAll document w = (all : Shapes) × AreShapes document 0 (length document) all
    × KeepsOf w.builder (entries_of 0 0 all)

-- where a turn leads: reading goes on, has ended, or has stopped
abbrev pub HasWalked : List ℕ → Turn → Reader EntryBuilder EntryItems → ℕ → Type 0
HasWalked document More w most = HasWalkedOn document w most
HasWalked document End w most = WalksAll document w
HasWalked document Stop w most = HasStopped document w

-- where a step leads that only memory can end
abbrev pub Leads : Result (Unit {0}) AllocError → Reader EntryBuilder EntryItems → Turn
    → Reader EntryBuilder EntryItems → Type 0
Leads (Ok u) a t b = (t ≡ More) × (b ≡ a)
Leads (Err e) a t b = (t ≡ Stop) × (b.fault ≡ OutOfMemory)

-- the innermost frame is read up to some offset, and there is the fault. Entries of frames that were dropped may follow
pub record IsAtFault (document : List ℕ) (w : Reader EntryBuilder EntryItems) (fault : DecodeFault)
    (offset most : ℕ) : Type 0 where
  pub reached : ℕ
  pub front : List Entry
  pub more : List Entry
  pub whole : KeepsOf w.builder (front ++ more)
  pub opened : AllOpen document w.inner (reverse w.outer.items) reached front
  pub stops : HeadersFaultAt document w.inner.extent.start reached w.inner.extent.end fault offset
  pub nearer : work_left (length document) w.inner.extent.end w.outer.items ≤ most
