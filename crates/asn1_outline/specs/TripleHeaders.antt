-- A signed triple by the headers of its encodings. Private contracts alone name this.
use Rattle.std.specs.Prelude.{◌≡◌, ℕ, List, length, slice_range}
use Rattle.asn1_headers.specs.declared.tags.TheConstants.{BIT_STRING, OBJECT_IDENTIFIER, SEQUENCE}
use Rattle.asn1_headers.specs.declared.header.ASN1Class.TheVariants.{Universal}
use Rattle.asn1_blocks.specs.Places.{HeaderFound}
use Rattle.asn1_blocks.specs.declared.parsed.PlacedHeader.{PlacedHeader}

-- the header is of class Universal, with the tag number
abbrev pub IsUniversalHeader : ℕ → PlacedHeader → Type 0
IsUniversalHeader tag h = (h.class ≡ Universal) × (h.tag ≡ tag)

-- at the offset stands an encoding of class Universal with the tag number and this header
abbrev pub IsUniversalAt : List ℕ → ℕ → ℕ → ℕ → PlacedHeader → Type 0
IsUniversalAt document offset limit tag h = HeaderFound document offset limit h × IsUniversalHeader tag h

-- the document begins with a SEQUENCE of three: what was signed; a SEQUENCE that begins with an OBJECT IDENTIFIER; and
-- a BIT STRING
pub record HasTripleHeaders (document : List ℕ) (whole content algorithm identifier signature : PlacedHeader)
    : Type 0 where
  pub is_whole : IsUniversalAt document 0 (length document) SEQUENCE whole
  pub is_content : HeaderFound document whole.start whole.end content
  pub is_algorithm : IsUniversalAt document content.end whole.end SEQUENCE algorithm
  pub is_identifier : IsUniversalAt document algorithm.start algorithm.end OBJECT_IDENTIFIER identifier
  pub is_signature : IsUniversalAt document algorithm.end whole.end BIT_STRING signature
  pub to_the_end : signature.end ≡ whole.end

-- the document begins with no triple
abbrev pub HasNoTriple : List ℕ → Type 0
HasNoTriple document = (w c a i s : PlacedHeader) → HasTripleHeaders document w c a i s → ⊥

-- the content is the octets of what was signed in the document
abbrev pub IsSignedIn : List ℕ → List ℕ → Type 0
IsSignedIn document content =
    (w : PlacedHeader) × (c : PlacedHeader) × (a : PlacedHeader) × (i : PlacedHeader) × (s : PlacedHeader)
    × HasTripleHeaders document w c a i s × (content ≡ slice_range document w.start c.end)
