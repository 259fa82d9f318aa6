-- Headers at the front of octets.
use Rattle.std.specs.Prelude.{◌≡◌, ◌&&◌, ℕ, ◌≤◌, Bool, true, List, ◌∷◌, ◌++◌, length, take}
use Rattle.asn1_headers.specs.declared.whole_header.Header.{Header}
use Rattle.asn1_headers.specs.declared.header.ASN1Class.{ASN1Class}
use Rattle.asn1_headers.specs.Header.{IsIdentifier, IsLength, IsSomeIdentifier}
use Rattle.asn1_headers.specs.Indefinite.{is_indefinite}

-- the octets begin with a header of so many octets, which announces so many contents octets
pub record BeginsWithHeader (octets : List ℕ) (size announced : ℕ) (class : ASN1Class) (constructed : Bool)
    (tag : ℕ) : Type 0 where
  pub within : size ≤ length octets
  pub identifier : List ℕ
  pub len : List ℕ
  pub front_is : take size octets ≡ identifier ++ len
  pub fields : IsIdentifier identifier class constructed tag
  pub length_octets : IsLength len announced

-- the header stands at the front of the octets
abbrev pub IsAtFront : List ℕ → Header → Type 0
IsAtFront octets header =
    BeginsWithHeader octets header.size header.announced header.class header.constructed header.tag

-- the header tells how many identifier octets it has, whether its length octets are 80, and whether its form is
-- indefinite
abbrev pub KnowsParts : List ℕ → Header → Type 0
KnowsParts octets header = (front : IsAtFront octets header) → (header.identifier ≡ length front.identifier)
    × (header.has_length_80 ≡ is_indefinite front.len)
    × (header.is_indefinite ≡ (header.constructed && header.has_length_80))

-- the octets are a header: identifier and length octets
abbrev pub IsHeader : List ℕ → Type 0
IsHeader header =
    (identifier : List ℕ) × (len : List ℕ) × (header ≡ identifier ++ len)
    × ((tag : ℕ) × IsSomeIdentifier identifier tag) × ((announced : ℕ) × IsLength len announced)

-- the octets do not begin with a header
abbrev pub HasNoHeader : List ℕ → Type 0
HasNoHeader octets = (header : List ℕ) (rest : List ℕ) → IsHeader header → octets ≡ header ++ rest → ⊥

-- the octets begin with identifier octets of a constructed encoding and the one length octet 80, which in BER is the
-- indefinite form (X.690 8.1.3.6). It is read as a length of 0
abbrev pub HasIndefiniteForm : List ℕ → Type 0
HasIndefiniteForm octets =
    (identifier behind : List ℕ) × (octets ≡ identifier ++ 128 ∷ behind)
    × ((class : ASN1Class) × (tag : ℕ) × IsIdentifier identifier class true tag)
