-- What is claimed of a refusal: its variant with what it holds.
use Rattle.std.specs.Prelude.{◌≡◌, ◌⊎◌, ℕ, ℤ, List, Option, Result, Ok, Err, drop, string_bytes}
use Rattle.std.specs.Str.{error_len, valid_up_to}
use Rattle.std.specs.Str.Lossy.{utf8_error_len, utf8_valid_len}
use Rattle.asn1_headers.specs.declared.error.ASN1DecodeErr.{ASN1DecodeErr}
use Rattle.asn1_headers.specs.declared.error.ASN1DecodeErr.TheVariants.{EmptyBuffer, BadBooleanLength, LengthTooLarge, UTF8DecodeFailure, PrintableStringDecodeFailure, InvalidDateValue, InvalidBitStringLength, InvalidClass, Incomplete, Overflow, OutOfMemory, NotCanonical}

pub data DecodeFault : Type 0 where
  empty_buffer : DecodeFault
  bad_boolean_length : ℕ → DecodeFault
  length_too_large : ℕ → DecodeFault
  utf8_failure : ℕ → Option ℕ → DecodeFault
  printable_string_failure : DecodeFault
  invalid_date_value : List ℕ → DecodeFault
  invalid_bit_string_length : ℤ → DecodeFault
  invalid_class : ℕ → DecodeFault
  incomplete : DecodeFault
  overflow : DecodeFault
  out_of_memory : DecodeFault
  not_canonical : ℕ → DecodeFault

abbrev pub fault_of : ASN1DecodeErr → DecodeFault
fault_of EmptyBuffer = empty_buffer
fault_of (BadBooleanLength n) = bad_boolean_length n
fault_of (LengthTooLarge n) = length_too_large n
fault_of (UTF8DecodeFailure e) = utf8_failure (valid_up_to e) (error_len e)
fault_of PrintableStringDecodeFailure = printable_string_failure
fault_of (InvalidDateValue text) = invalid_date_value (string_bytes text)
fault_of (InvalidBitStringLength n) = invalid_bit_string_length n
fault_of (InvalidClass n) = invalid_class n
fault_of Incomplete = incomplete
fault_of Overflow = overflow
fault_of OutOfMemory = out_of_memory
fault_of (NotCanonical n) = not_canonical n

-- the fault of octets that are no UTF-8: how many at the front are UTF-8, and how many after them are no character, or
-- none of these where the octets end inside one
abbrev pub utf8_fault : List ℕ → DecodeFault
utf8_fault octets =
    let n = utf8_valid_len octets in
    utf8_failure n (utf8_error_len (drop n octets))

-- memory ran out, or the fault is one of these
abbrev pub OutOfMemoryOr : (DecodeFault → Type 0) → ASN1DecodeErr → Type 0
OutOfMemoryOr P e = (e ≡ OutOfMemory) ⊎ P (fault_of e)

-- the claim holds unless memory ran out
abbrev pub UnlessOutOfMemory : {A : Type 0} → Result A ASN1DecodeErr → Type 0 → Type 0
UnlessOutOfMemory (Ok x) P = P
UnlessOutOfMemory (Err e) P = (e ≡ OutOfMemory) ⊎ P

-- the fault is one that octets can have in reading: no class that does not exist, no overflow, no memory that ran out,
-- and no block that is not canonical
abbrev pub IsOfReading : DecodeFault → Type 0
IsOfReading empty_buffer = Unit {0}
IsOfReading (bad_boolean_length n) = Unit {0}
IsOfReading (length_too_large n) = Unit {0}
IsOfReading (utf8_failure n size) = Unit {0}
IsOfReading printable_string_failure = Unit {0}
IsOfReading (invalid_date_value text) = Unit {0}
IsOfReading (invalid_bit_string_length n) = Unit {0}
IsOfReading (invalid_class n) = ⊥
IsOfReading incomplete = Unit {0}
IsOfReading overflow = ⊥
IsOfReading out_of_memory = ⊥
IsOfReading (not_canonical n) = ⊥
