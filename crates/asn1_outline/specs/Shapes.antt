-- Encodings by their headers alone (X.690 8.1.1). Contents octets of a SEQUENCE or SET are encodings (8.9 to 8.12);
-- contents octets of a constructed encoding of another class are (8.14), or stay as they came. No others are read.
use Rattle.std.specs.Prelude.{◌≡◌, ◌≢◌, ℕ, suc, ◌+◌, ◌-◌, ◌<◌, ◌≤◌, ◌^◌, ◌⊎◌, ◌++◌, true, List, [], ◌∷◌, length, min, slice_range}
use Rattle.asn1_headers.specs.Fault.{DecodeFault, empty_buffer}
use Rattle.asn1_headers.specs.HeaderFault.{HeaderFault}
use Rattle.asn1_headers.specs.declared.header.ASN1Class.TheVariants.{Universal}
use Rattle.asn1_blocks.specs.HeadersBegun.{IsReadInside}
use Rattle.asn1_blocks.specs.Places.{HeaderFound}
use Rattle.asn1_blocks.specs.declared.parsed.PlacedHeader.{PlacedHeader}
use Rattle.asn1_outline.specs.declared.entry.Entry.{Entry}

-- encodings one after another: the offset and the header of the first, those inside it, and those after it
pub data Shapes : Type 0 where
  no_shapes : Shapes
  more_shapes : ℕ → PlacedHeader → Shapes → Shapes → Shapes

mutual
  -- the octets of the document from the offset to the end are encodings with these shapes
  pub data AreShapes (document : List ℕ) : ℕ → ℕ → Shapes → Type 0 where
    no_more : {offset end : ℕ} → offset ≡ end → AreShapes document offset end no_shapes
    one_more : {offset end : ℕ} {header : PlacedHeader} {items rest : Shapes}
        → HeaderFound document offset end header → HasItems document header items
        → AreShapes document header.end end rest
        → AreShapes document offset end (more_shapes offset header items rest)

  -- the shapes stand inside the encoding with the header
  pub data HasItems (document : List ℕ) : PlacedHeader → Shapes → Type 0 where
    read_inside : {header : PlacedHeader} {items : Shapes}
        → IsReadInside header.class header.constructed header.tag
        → AreShapes document header.start header.end items → HasItems document header items
    as_it_came : {header : PlacedHeader} {fault : DecodeFault} {offset : ℕ}
        → header.class ≢ Universal → header.constructed ≡ true
        → HeadersFaultAt document header.start header.start header.end fault offset
        → HasItems document header no_shapes
    not_read : {header : PlacedHeader} → (IsReadInside header.class header.constructed header.tag → ⊥)
        → HasItems document header no_shapes

  -- the octets from the offset reached to the end, in contents octets from the start on, are encodings and then one at
  -- fault by its header. The innermost encoding at fault begins at the offset
  pub data HeadersFaultAt (document : List ℕ) : ℕ → ℕ → ℕ → DecodeFault → ℕ → Type 0 where
    in_header : {start reached end : ℕ} {fault : DecodeFault} → reached < end
        → HeaderFault (reached - start) (slice_range document reached end) fault
        → HeadersFaultAt document start reached end fault reached
    in_item : {start reached end : ℕ} {header : PlacedHeader} {fault : DecodeFault} {offset : ℕ}
        → HeaderFound document reached end header → header.class ≡ Universal
        → IsReadInside header.class header.constructed header.tag
        → HeadersFaultAt document header.start header.start header.end fault offset
        → HeadersFaultAt document start reached end fault offset
    in_later : {start reached end : ℕ} {header : PlacedHeader} {items : Shapes} {fault : DecodeFault} {offset : ℕ}
        → HeaderFound document reached end header → HasItems document header items
        → HeadersFaultAt document start header.end end fault offset
        → HeadersFaultAt document start reached end fault offset

-- the octets are encodings with these shapes, one or more
pub record HasShapes (octets : List ℕ) (all : Shapes) : Type 0 where
  pub some : 0 < length octets
  pub shapes : AreShapes octets 0 (length octets) all

-- the first fault of octets that have no shapes, and its offset, which is 0 for no octets
abbrev pub FirstHeaderFaultAt : List ℕ → DecodeFault → ℕ → Type 0
FirstHeaderFaultAt octets fault offset =
    ((octets ≡ []) × (fault ≡ empty_buffer) × (offset ≡ 0))
    ⊎ HeadersFaultAt octets 0 0 (length octets) fault offset

-- how many encodings stand side by side
abbrev pub shape_count : Shapes → ℕ
shape_count no_shapes = 0
shape_count (more_shapes offset header items rest) = suc (shape_count rest)

-- the entry of the encoding at an offset. Its tag field is the tag number, or the greatest that the field can be
abbrev pub shape_entry : ℕ → PlacedHeader → ℕ → ℕ → ℕ → Entry
shape_entry offset header items next depth = record {
  class = header.class;
  constructed = header.constructed;
  tag = min header.tag (2 ^ 64 - 1);
  offset = offset;
  header = header.start - offset;
  contents = header.end - header.start;
  items = items;
  next = next;
  depth = depth;
}

-- the entries of encodings at a depth, each before the entries inside it; the first entry has the index
abbrev pub entries_of : ℕ → ℕ → Shapes → List Entry
entries_of index depth no_shapes = []
entries_of index depth (more_shapes offset header items rest) =
    shape_entry offset header (shape_count items) (suc index + length (entries_of (suc index) (suc depth) items)) depth
    ∷ (entries_of (suc index) (suc depth) items
    ++ entries_of (suc index + length (entries_of (suc index) (suc depth) items)) depth rest)

-- the entries are those of the octets
abbrev pub AreEntriesOfShapes : List ℕ → List Entry → Type 0
AreEntriesOfShapes octets rs = (all : Shapes) × HasShapes octets all × (rs ≡ entries_of 0 0 all)

-- the encoding of the entry lies in the document
abbrev pub IsWithin : List ℕ → Entry → Type 0
IsWithin document r = r.offset + r.header + r.contents ≤ length document

-- the octets of an encoding by its entry, and its contents octets
abbrev pub encoding_octets : List ℕ → Entry → List ℕ
encoding_octets document r = slice_range document r.offset (r.offset + r.header + r.contents)

abbrev pub contents_octets : List ℕ → Entry → List ℕ
contents_octets document r = slice_range document (r.offset + r.header) (r.offset + r.header + r.contents)
