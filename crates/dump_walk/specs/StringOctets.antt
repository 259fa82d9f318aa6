-- The octets that a string holds, in one piece or in segments.
use Rattle.std.specs.Prelude.{◌≡◌, ◌==◌, ◌⊎◌, ◌||◌, ◌&&◌, ℕ, ◌≤◌, nat_le, Bool, true, false, List, [], ◌∷◌, Result, Ok, Err, Vec, drop}
use Rattle.std.specs.Global.{Global}
use Rattle.asn1_headers.specs.declared.tags.TheConstants.{BIT_STRING, OCTET_STRING, OBJECT_DESCRIPTOR, UTF8_STRING, NUMERIC_STRING, UNIVERSAL_STRING, BMP_STRING}
use Rattle.asn1_headers.specs.declared.header.ASN1Class.TheVariants.{Universal}
use Rattle.asn1_headers.specs.declared.whole_header.Header.{Header}
use Rattle.dump_walk.specs.Headers.{IsHeaderOf}
use Rattle.dump_walk.specs.Segments.{AreSegmentsOf, HaveNoSegments}
use Rattle.dump_walk.specs.declared.string_value.NoString.{NoString}
use Rattle.dump_walk.specs.declared.string_value.NoString.TheVariants.{Malformed, OtherType}

-- the tags of strings, of ObjectDescriptor, UTCTime and GeneralizedTime too, which are strings (X.680 8.4, table 1)
abbrev pub is_string_tag : ℕ → Bool
is_string_tag tag =
    tag == BIT_STRING || tag == OCTET_STRING || tag == OBJECT_DESCRIPTOR || tag == UTF8_STRING
    || (nat_le NUMERIC_STRING tag && nat_le tag UNIVERSAL_STRING) || tag == BMP_STRING

-- an element begins with the header of a string with the tag
abbrev pub IsStringHeader : List ℕ → ℕ → Header → Type 0
IsStringHeader element tag header =
    IsHeaderOf element header × (header.class ≡ Universal) × (header.tag ≡ tag) × (is_string_tag tag ≡ true)

-- contents octets in one piece: those of a primitive encoding, or the segments of a constructed one, joined
abbrev pub AreInOnePiece : List ℕ → ℕ → Header → Bool → List ℕ → Type 0
AreInOnePiece element tag header true contents =
    AreSegmentsOf tag (drop header.size element) header.is_indefinite contents
AreInOnePiece element tag header false contents =
    (contents ≡ drop header.size element) × (header.has_length_80 ≡ false)

-- there are none in one piece: a constructed encoding has something else than segments, or a primitive one has a length
-- of the indefinite form
abbrev pub AreInNoPiece : List ℕ → ℕ → Header → Bool → Type 0
AreInNoPiece element tag header true = HaveNoSegments tag (drop header.size element) header.is_indefinite
AreInNoPiece element tag header false = header.has_length_80 ≡ true

-- the octets of a string, by its contents octets: those of a BIT STRING stand behind the number of unused bits, which
-- is 7 at most, and 0 where there are no bits (X.690 8.6.2)
abbrev pub AreOctetsOf : ℕ → List ℕ → List ℕ → Type 0
AreOctetsOf tag contents octets =
    ((tag == BIT_STRING) ≡ true
    × ((unused : ℕ) × (contents ≡ unused ∷ octets) × (unused ≤ 7) × (octets ≡ [] → unused ≡ 0)))
    ⊎ ((tag == BIT_STRING) ≡ false × (octets ≡ contents))

-- an element with the header of a string holds the octets
abbrev pub IsHeldBy : List ℕ → ℕ → Header → List ℕ → Type 0
IsHeldBy element tag header octets =
    (contents : List ℕ) × AreInOnePiece element tag header header.constructed contents
    × AreOctetsOf tag contents octets

-- its contents octets are in no piece, or hold no octets
abbrev pub IsNoneHeldBy : List ℕ → ℕ → Header → Type 0
IsNoneHeldBy element tag header =
    AreInNoPiece element tag header header.constructed
    ⊎ ((contents : List ℕ) × AreInOnePiece element tag header header.constructed contents
    × ((octets : List ℕ) → AreOctetsOf tag contents octets → ⊥))

-- the element is a string that holds the octets
pub record HoldsOctets (element octets : List ℕ) : Type 0 where
  pub tag : ℕ
  pub header : Header
  pub is_string : IsStringHeader element tag header
  pub holds : IsHeldBy element tag header octets

-- the element is no string
abbrev pub IsNoString : List ℕ → Type 0
IsNoString element = (tag : ℕ) (header : Header) → IsStringHeader element tag header → ⊥

-- the element is a string that holds none
pub record IsMalformed (element : List ℕ) : Type 0 where
  pub tag : ℕ
  pub header : Header
  pub is_string : IsStringHeader element tag header
  pub holds_none : IsNoneHeldBy element tag header

abbrev pub HoldsNoOctets : List ℕ → Type 0
HoldsNoOctets element = IsNoString element ⊎ IsMalformed element

-- the octets that an element holds as a string, or why it holds none: it is no string, or a malformed one
abbrev pub IsStringAnswer : List ℕ → Result (Vec ℕ Global) NoString → Type 0
IsStringAnswer element (Ok octets) = HoldsOctets element octets.items
IsStringAnswer element (Err OtherType) = IsNoString element
IsStringAnswer element (Err Malformed) = IsMalformed element
