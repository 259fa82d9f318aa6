-- What is found step by step. Private contracts alone name these.
use Rattle.std.specs.Prelude.{◌≡◌, ◌++◌, ◌+◌, ◌-◌, ◌≤◌, ℕ, Bool, true, List, [], ◌∷◌, length, slice_range, Option, None, Some}
use Rattle.asn1_numbers.specs.Octets.{AreOctets}
use Rattle.asn1_headers.specs.Header.{IsIdentifier, IsLength, IsSomeIdentifier, shortest_identifier, shortest_length}
use Rattle.asn1_headers.specs.Indefinite.{is_indefinite}
use Rattle.asn1_blocks.specs.declared.parsed.PlacedHeader.{PlacedHeader}
use Rattle.asn1_der.specs.declared.order.Order.{Order}
use Rattle.asn1_der.specs.declared.order.Order.TheVariants.{Tags, Octets}
use Rattle.asn1_headers.specs.declared.header.ASN1Class.{ASN1Class}
use Rattle.asn1_der.specs.Der.{AreDerEncodings, HasLessTag, HasNoGreaterOctets, IsRightAlone, IsShortest}

-- the octets are encodings of DER, also none
abbrev pub AreDer : List ℕ → Type 0
AreDer octets = (items : List (List ℕ)) × AreDerEncodings octets items

-- octets are DER from the index to the first end, and from each end to the next
abbrev pub AreDerUpTo : List ℕ → ℕ → List ℕ → Type 0
AreDerUpTo octets index [] = Unit {0}
AreDerUpTo octets index (end ∷ ends) = AreDer (slice_range octets index end) × AreDerUpTo octets end ends

-- the ends ascend from the index on
abbrev pub AreEnds : ℕ → List ℕ → ℕ → Type 0
AreEnds index [] whole = index ≡ whole
AreEnds index (end ∷ ends) whole = (index ≤ end) × AreEnds end ends whole

-- what is asked of an encoding beside its items
abbrev pub IsDerAlone : List ℕ → ASN1Class → Bool → ℕ → List ℕ → Type 0
IsDerAlone octets class constructed tag contents =
    IsShortest octets class constructed tag contents × IsRightAlone class constructed tag contents

-- what is asked of an encoding, and of its items
pub record IsWhole (x : List ℕ) (c : ASN1Class) (k : Bool) (n : ℕ) (v : List ℕ) : Type 0 where
  pub alone : IsDerAlone x c k n v
  pub items : k ≡ true → AreDer v

-- identifier octets stand at the front
pub record IsFront (identifier octets : List ℕ) : Type 0 where
  pub tag : ℕ
  pub rest : List ℕ
  pub is : IsSomeIdentifier identifier tag
  pub whole : octets ≡ identifier ++ rest

-- whether an encoding may stand before another, by each order
abbrev pub MayStandBefore : Order → List ℕ → List ℕ → Type 0
MayStandBefore Tags = HasLessTag
MayStandBefore Octets = HasNoGreaterOctets

-- an encoding may stand behind another, if there is another
abbrev pub MayFollow : (List ℕ → List ℕ → Type 0) → Option (List ℕ) → List ℕ → Type 0
MayFollow May None next = Unit {0}
MayFollow May (Some first) next = May first next

-- encodings behind another, if there is one
abbrev pub behind : Option (List ℕ) → List (List ℕ) → List (List ℕ)
behind None items = items
behind (Some first) items = first ∷ items

-- the header is of these identifier octets and length octets
pub record HasParts (header : PlacedHeader) (identifier len : List ℕ) : Type 0 where
  pub identifier_octets : IsIdentifier identifier header.class header.constructed header.tag
  pub length_octets : IsLength len (header.end - header.start)
  pub identifier_all : AreOctets identifier
  pub length_all : AreOctets len
  pub identifier_size : header.identifier ≡ length identifier
  pub size_is : header.size ≡ header.identifier + length len
  pub length_80 : header.has_length_80 ≡ is_indefinite len

-- identifier and length octets are the shortest of their fields
pub record HasShortest (identifier len : List ℕ) (class : ASN1Class) (constructed : Bool) (tag size : ℕ)
    : Type 0 where
  pub identifier_is : identifier ≡ shortest_identifier class constructed tag
  pub len_is : len ≡ shortest_length size
