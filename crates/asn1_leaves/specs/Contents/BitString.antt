-- Contents octets of a BIT STRING (X.690 8.6): the number of its bits, and the octets that hold them.
use Rattle.std.specs.Prelude.{◌≡◌, ◌==◌, ◌||◌, ◌⊎◌, ℕ, ◌+◌, ◌-◌, ◌*◌, ◌^◌, ◌<◌, ◌≤◌, ◌-ℤ◌, pos, List, [], ◌∷◌, length, slice_index, nat_lt, if◌then◌else◌, Option, Some, None}
use Rattle.asn1_headers.specs.declared.error.ASN1EncodeErr.{ASN1EncodeErr}
use Rattle.asn1_headers.specs.declared.error.ASN1EncodeErr.TheVariants.{BitStringLength}
use Rattle.asn1_headers.specs.Fault.{DecodeFault, length_too_large, invalid_bit_string_length}

-- no octets, or the number of unused bits at the end and the octets of the bits, which a usize can count. X.690 has at
-- least one octet (8.6.2.3), and at most 7 unused bits (8.6.2.2)
abbrev pub BitStringContents : ℕ → List ℕ → List ℕ → Type 0
BitStringContents n v [] = (n ≡ 0) × (v ≡ [])
BitStringContents n v (u ∷ contents) = (v ≡ contents) × (n + u ≡ 8 * length v) × (8 * length v < 2 ^ 64)

-- the fault of octets that mean no BIT STRING: fewer bits than are unused, or more than a usize can count
abbrev pub bit_string_fault : List ℕ → DecodeFault
bit_string_fault contents =
    let bits = 8 * (length contents - 1) in
    if nat_lt bits (2 ^ 64) then invalid_bit_string_length (pos bits -ℤ pos (slice_index contents 0))
    else length_too_large (length contents)

-- the octets mean no BIT STRING, with this fault
abbrev pub BitStringFault : List ℕ → DecodeFault → Type 0
BitStringFault contents fault =
    ((n : ℕ) (v : List ℕ) → BitStringContents n v contents → ⊥) × (fault ≡ bit_string_fault contents)

-- the octets that are written: none of no bits, where X.690 8.6.2.3 has the one octet 00
abbrev pub bit_string_contents : ℕ → List ℕ → List ℕ
bit_string_contents n v = if n == 0 then [] else (8 * length v - n) ∷ v

-- why a bit string can't be written: more bits than the octets have, or more unused bits than an octet can count
abbrev pub bit_string_write_fault : ℕ → List ℕ → Option ASN1EncodeErr
bit_string_write_fault n v =
    if n == 0 then None
    else (if nat_lt (8 * length v) n || nat_lt (n + 255) (8 * length v) then Some BitStringLength
    else None)

-- there are neither bits nor octets; or there are bits and octets enough for them, at most 255 bits of the octets are
-- unused, and a usize can count all bits of the octets
abbrev pub IsFaithfulBitString : ℕ → List ℕ → Type 0
IsFaithfulBitString n v =
    ((n ≡ 0) × (v ≡ []))
    ⊎ ((0 < n) × (n ≤ 8 * length v) × (8 * length v ≤ n + 255) × (8 * length v < 2 ^ 64))

-- the octets that are left of a bit string of so many bits: of no bits none
abbrev pub written_bits : ℕ → List ℕ → List ℕ
written_bits n v = if n == 0 then [] else v
