-- Documents in the octets of a string: which octets these are, and where they stand in the document around.
use Rattle.std.specs.Prelude.{◌≡◌, ℕ, ◌+◌, ◌≤◌, ◌⊎◌, false, List, Some, length, slice_get, slice_range}
use Rattle.asn1_headers.specs.Fault.{DecodeFault}
use Rattle.asn1_headers.specs.declared.header.ASN1Class.TheVariants.{Universal}
use Rattle.asn1_headers.specs.declared.tags.TheConstants.{BIT_STRING, OCTET_STRING}
use Rattle.asn1_blocks.specs.Grammar.{FirstFaultAt, IsDocument}
use Rattle.asn1_blocks.specs.Tree.{Trees}
use Rattle.asn1_outline.specs.Shapes.{contents_octets}
use Rattle.asn1_outline.specs.declared.entry.Entry.{Entry}

-- the octets stand in the document, the first at the start
pub record StandsAt (document : List ℕ) (start : ℕ) (octets : List ℕ) : Type 0 where
  pub within : start + length octets ≤ length document
  pub octets_are : slice_range document start (start + length octets) ≡ octets

-- the tag is that of an OCTET STRING, or of another class, as an implicit tag of one is (X.690 8.14.3)
abbrev pub HasOctetStringTag : Entry → Type 0
HasOctetStringTag r = r.class ≡ Universal → r.tag ≡ OCTET_STRING

-- a BIT STRING of whole octets: its initial octet says that no bits are unused (X.690 8.6.2.2)
abbrev pub IsOfWholeOctets : List ℕ → Entry → Type 0
IsOfWholeOctets document r =
    (r.class ≡ Universal) × (r.tag ≡ BIT_STRING) × (slice_get (contents_octets document r) 0 ≡ Some 0)

-- the octets of a string begin with its contents octets (X.690 8.7.2), or behind the initial octet of a BIT STRING
abbrev pub StringBeginsAt : List ℕ → Entry → ℕ → Type 0
StringBeginsAt document r start = (HasOctetStringTag r × (start ≡ r.offset + r.header))
    ⊎ (IsOfWholeOctets document r × (start ≡ r.offset + r.header + 1))

-- the entry is of a string in a primitive encoding, with these octets, which begin at the start
pub record HasString (document : List ℕ) (r : Entry) (start : ℕ) (octets : List ℕ) : Type 0 where
  pub primitive : r.constructed ≡ false
  pub begins : StringBeginsAt document r start
  pub octets_are : octets ≡ slice_range document start (r.offset + r.header + r.contents)

-- the entry is of no string
abbrev pub HasNoString : List ℕ → Entry → Type 0
HasNoString document r = (start : ℕ) (octets : List ℕ) → HasString document r start octets → ⊥

-- the octets of the entry's string are a document with these trees
abbrev pub HasDocumentInString : List ℕ → Entry → Trees ℕ → Type 0
HasDocumentInString document r bs =
    (start : ℕ) × (octets : List ℕ) × HasString document r start octets × IsDocument octets bs

-- the first fault of the octets of the entry's string, and its offset in the document around
abbrev pub FirstFaultInString : List ℕ → Entry → DecodeFault → ℕ → Type 0
FirstFaultInString document r fault offset = (start : ℕ) × (octets : List ℕ) × (place : ℕ)
    × HasString document r start octets × FirstFaultAt octets fault place × (offset ≡ start + place)

-- the entry with an offset that is greater by so much
abbrev pub later : ℕ → Entry → Entry
later start r = record {
  class = r.class;
  constructed = r.constructed;
  tag = r.tag;
  offset = start + r.offset;
  header = r.header;
  contents = r.contents;
  items = r.items;
  next = r.next;
  depth = r.depth;
}
