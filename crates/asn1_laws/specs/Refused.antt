-- What is not read of DER.
use Rattle.std.specs.Prelude.{◌≡◌, ℕ, ◌^◌, ◌≤◌, Bool, true, false, List, length}
use Rattle.asn1_headers.specs.Fault.{DecodeFault, length_too_large}
use Rattle.asn1_headers.specs.declared.tags.TheConstants.{GENERALIZED_TIME}
use Rattle.asn1_leaves.specs.StringKind.{StringKind, utf8, printable, teletex, ia5, universal, bmp}
use Rattle.asn1_blocks.specs.Contents.{LeafFault, string_tag}
use Rattle.asn1_der.specs.Times.{IsLeapSecond}

-- the strings that are read as UTF-8, and have another code in DER (8.23)
abbrev pub is_not_utf8 : StringKind → Bool
is_not_utf8 utf8 = false
is_not_utf8 printable = false
is_not_utf8 teletex = true
is_not_utf8 ia5 = false
is_not_utf8 universal = true
is_not_utf8 bmp = true

-- the faults of octets that are DER: a string that has another code in DER is no UTF-8, a BIT STRING has more bits than
-- a usize counts, or a GeneralizedTime has second 60
pub data IsFaultOfDer (octets : List ℕ) (fault : DecodeFault) : Type 0 where
  of_string : (kind : StringKind) (contents : List ℕ) → is_not_utf8 kind ≡ true
      → LeafFault (string_tag kind) contents fault → IsFaultOfDer octets fault
  of_bits : (size : ℕ) → 2 ^ 61 ≤ length octets → fault ≡ length_too_large size → IsFaultOfDer octets fault
  of_second_60 : (contents : List ℕ) → IsLeapSecond contents → LeafFault GENERALIZED_TIME contents fault
      → IsFaultOfDer octets fault
