-- Contents octets of an OBJECT IDENTIFIER (X.690 8.19). Its value is the list of its components.
use Rattle.std.specs.Prelude.{◌≡◌, ◌==◌, ℕ, ◌+◌, ◌*◌, ◌<◌, ◌≤◌, ◌⊎◌, ◌++◌, List, [], ◌∷◌, nat_lt, if◌then◌else◌, Option, Some, None}
use Rattle.std.specs.List.{flat_map}
use Rattle.asn1_headers.specs.declared.error.ASN1EncodeErr.{ASN1EncodeErr}
use Rattle.asn1_headers.specs.declared.error.ASN1EncodeErr.TheVariants.{ObjectIdentHasTooFewFields, ObjectIdentVal1TooLarge, ObjectIdentVal2TooLarge}
use Rattle.asn1_numbers.specs.Base128.{IsBase128, shortest_base128}
use Rattle.asn1_headers.specs.Fault.{DecodeFault, incomplete}

-- the octets are subidentifiers of these numbers, one after another: each is a base-128 number, of
-- any length, where X.690 8.19.2 has the shortest
abbrev pub Subidentifiers : List ℕ → List ℕ → Type 0
Subidentifiers [] octets = octets ≡ []
Subidentifiers (n ∷ ns) octets =
    (first : List ℕ) × (rest : List ℕ) × (octets ≡ first ++ rest) × IsBase128 first n
    × Subidentifiers ns rest

-- the first two components are of this number (X.690 8.19.4)
abbrev pub AreFirstTwo : ℕ → ℕ → ℕ → Type 0
AreFirstTwo x y n = (n ≡ 40 * x + y) × (x ≤ 2) × ((y < 40) ⊎ (x ≡ 2))

-- one octet, whose number is that of the first two components, and subidentifiers of the others. In
-- X.690 8.19.4 the first number is a subidentifier too, which may have more octets
abbrev pub ObjectIdentifierContents : List ℕ → List ℕ → Type 0
ObjectIdentifierContents [] contents = ⊥
ObjectIdentifierContents (x ∷ []) contents = ⊥
ObjectIdentifierContents (x ∷ y ∷ ns) contents =
    (b : ℕ) × (rest : List ℕ) × (contents ≡ b ∷ rest) × AreFirstTwo x y b × Subidentifiers ns rest

-- the octets mean no object identifier, with this fault
abbrev pub ObjectIdentifierFault : List ℕ → DecodeFault → Type 0
ObjectIdentifierFault contents fault =
    (fault ≡ incomplete) × ((ns : List ℕ) → ObjectIdentifierContents ns contents → ⊥)

-- the octets that are written, each subidentifier in its shortest form (X.690 8.19.2)
abbrev pub object_identifier_contents : List ℕ → List ℕ
object_identifier_contents [] = []
object_identifier_contents (x ∷ []) = []
object_identifier_contents (x ∷ y ∷ ns) = (40 * x + y) ∷ flat_map shortest_base128 ns

-- the greatest second component after this first one: 39 (X.690 8.19.4), or what an octet can hold
abbrev pub greatest_second : ℕ → ℕ
greatest_second x = if x == 2 then 175 else 39

-- why components can't be written
abbrev pub object_identifier_write_fault : List ℕ → Option ASN1EncodeErr
object_identifier_write_fault [] = Some ObjectIdentHasTooFewFields
object_identifier_write_fault (x ∷ []) = Some ObjectIdentHasTooFewFields
object_identifier_write_fault (x ∷ y ∷ ns) =
    if nat_lt 2 x then Some ObjectIdentVal1TooLarge
    else (if nat_lt (greatest_second x) y then Some ObjectIdentVal2TooLarge
    else None)

-- the components are read again as they were: all that can be written are
abbrev pub IsFaithfulObjectIdentifier : List ℕ → Type 0
IsFaithfulObjectIdentifier ns = object_identifier_write_fault ns ≡ None
