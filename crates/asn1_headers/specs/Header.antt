-- Identifier octets, length octets, and the encodings that they lead.
use Rattle.std.specs.Prelude.{◌≡◌, ℕ, ◌+◌, ◌*◌, ◌-◌, ◌<◌, ◌≤◌, ◌⊎◌, ◌++◌, Bool, List, [], ◌∷◌, length, take, nat_lt, if◌then◌else◌}
use Rattle.std.specs.Int.Digits.{number_from_digits, digits_of}
use Rattle.asn1_headers.specs.declared.header.ASN1Class.{ASN1Class}
use Rattle.asn1_headers.specs.declared.header.ASN1Class.TheVariants.{Universal, Application, ContextSpecific, Private}
use Rattle.asn1_headers.specs.Fault.{DecodeFault, incomplete, length_too_large}
use Rattle.asn1_numbers.specs.Base128.{IsBase128, shortest_base128}

-- bits 8 and 7 of the leading octet (X.690 table 1)
abbrev pub class_number : ASN1Class → ℕ
class_number Universal = 0
class_number Application = 1
class_number ContextSpecific = 2
class_number Private = 3

-- bit 6: 0 for primitive, 1 for constructed (X.690 8.1.2.5)
abbrev pub constructed_bit : Bool → ℕ
constructed_bit constructed = if constructed then 1 else 0

-- the leading octet of identifier octets, whose bits 5 to 1 are these (X.690 8.1.2.2)
abbrev pub leading_octet : ASN1Class → Bool → ℕ → ℕ
leading_octet class constructed low = class_number class * 64 + constructed_bit constructed * 32 + low

-- identifier octets: one for a tag number below 31 (X.690 8.1.2.2), or a leading octet that ends in 31 and a base-128
-- number (X.690 8.1.2.4), which may be any: also one below 31, or not in its shortest form
abbrev pub IsIdentifier : List ℕ → ASN1Class → Bool → ℕ → Type 0
IsIdentifier [] class constructed tag = ⊥
IsIdentifier (b ∷ []) class constructed tag = (tag < 31) × (b ≡ leading_octet class constructed tag)
IsIdentifier (b ∷ d ∷ octets) class constructed tag = (b ≡ leading_octet class constructed 31)
    × IsBase128 (d ∷ octets) tag

-- length octets of the definite form: the short form (X.690 8.1.3.4), or 128 + k and k octets (X.690 8.1.3.5). k is at
-- most 8, the octets of a usize. Where k is 0, the length is 0, and X.690 has the indefinite form (8.1.3.6)
abbrev pub IsLength : List ℕ → ℕ → Type 0
IsLength [] n = ⊥
IsLength (b ∷ octets) n =
    ((b < 128) × (octets ≡ []) × (n ≡ b))
    ⊎ ((b ≡ 128 + length octets) × (length octets ≤ 8) × (n ≡ number_from_digits 256 octets))

-- the shortest length octets, which are written (X.690 10.1)
abbrev pub shortest_length : ℕ → List ℕ
shortest_length n = if nat_lt n 128 then n ∷ [] else (128 + length (digits_of 256 n)) ∷ digits_of 256 n

-- the shortest identifier octets, which are written (X.690 8.1.2.2, 8.1.2.4.2)
abbrev pub shortest_identifier : ASN1Class → Bool → ℕ → List ℕ
shortest_identifier class constructed tag =
    if nat_lt tag 31 then leading_octet class constructed tag ∷ []
    else leading_octet class constructed 31 ∷ shortest_base128 tag

-- the octets are an encoding: identifier octets, length octets, and contents octets of that length (X.690 8.1.1). The
-- header is what stands before the contents
pub record Encoding (octets : List ℕ) (class : ASN1Class) (constructed : Bool) (tag : ℕ) (contents : List ℕ)
    (header : ℕ) : Type 0 where
  pub identifier : List ℕ
  pub len : List ℕ
  pub identifier_octets : IsIdentifier identifier class constructed tag
  pub length_octets : IsLength len (length contents)
  pub whole : octets ≡ identifier ++ (len ++ contents)
  pub size : header ≡ length identifier + length len

-- identifier octets of some class, primitive or constructed
abbrev pub IsSomeIdentifier : List ℕ → ℕ → Type 0
IsSomeIdentifier octets tag = (class : ASN1Class) × (constructed : Bool)
    × IsIdentifier octets class constructed tag

-- the octets begin with no octets that have the meaning, of any value
abbrev pub BeginsWithNo : (List ℕ → ℕ → Type 0) → List ℕ → Type 0
BeginsWithNo Means octets = (n k : ℕ) → Means (take k octets) n → ⊥

-- octets are incomplete if they begin with none that have the meaning
abbrev pub IsIncomplete : (List ℕ → ℕ → Type 0) → List ℕ → DecodeFault → Type 0
IsIncomplete Means octets fault = (fault ≡ incomplete) × BeginsWithNo Means octets

-- the fault of octets that begin with no length octets. 136 is 128 + 8: past it more than 8 octets would follow
abbrev pub length_fault : List ℕ → DecodeFault
length_fault [] = incomplete
length_fault (b ∷ octets) = if nat_lt 136 b then length_too_large (b - 128) else incomplete
