-- Contents octets of primitive encodings of class Universal, as DER has them, by the tag number.
use Rattle.std.specs.Prelude.{◌≡◌, ◌==◌, ◌&&◌, ◌||◌, ℕ, ◌+◌, ◌*◌, ◌%◌, ◌^◌, nat_lt, Bool, true, false, not, MatchBool, if◌then◌else◌, List, [], ◌∷◌, length}
use Rattle.asn1_headers.specs.declared.tags.TheConstants.{BOOLEAN, INTEGER, BIT_STRING, NULL, OBJECT_IDENTIFIER, OBJECT_DESCRIPTOR, REAL, ENUMERATED, UTF8_STRING, RELATIVE_OID, TIME, NUMERIC_STRING, PRINTABLE_STRING, IA5_STRING, UTC_TIME, GENERALIZED_TIME, GRAPHIC_STRING, VISIBLE_STRING, UNIVERSAL_STRING, BMP_STRING, DATE, TIME_OF_DAY, DATE_TIME, DURATION, OID_IRI, RELATIVE_OID_IRI}
use Rattle.std.specs.Char.{is_ascii, is_ascii_digit}
use Rattle.std.specs.List.{list_all}
use Rattle.std.specs.Str.{byte, is_utf8}
use Rattle.asn1_leaves.specs.Contents.Text.{is_printable}
use Rattle.asn1_der.specs.Iri.{are_labels, is_iri}
use Rattle.asn1_der.specs.Padding.{has_padded_component, is_padded_number, last_octet}
use Rattle.asn1_der.specs.Real.{is_real}
use Rattle.asn1_der.specs.Times.{IsDate, IsDateTime, IsGeneralizedTime, IsUtcTime, is_duration, is_time, is_time_of_day}

-- BOOLEAN: one octet (8.2.1), 00 or FF (8.2.2, 11.1)
abbrev pub is_boolean : List ℕ → Bool
is_boolean (octet ∷ []) = (octet == 0) || (octet == 255)
is_boolean octets = false

-- INTEGER and ENUMERATED (8.4): an octet or more (8.3.1), the first nine bits not alike (8.3.2)
abbrev pub is_integer : List ℕ → Bool
is_integer octets = not (is_padded_number octets)

-- BIT STRING: the number of unused bits, 0 to 7 (8.6.2.2), 0 where there are no bits (8.6.2.3), and the octets of the
-- bits, in whose last one the unused bits are 0 (11.2.1)
abbrev pub is_bit_string : List ℕ → Bool
is_bit_string [] = false
is_bit_string (unused ∷ []) = unused == 0
is_bit_string (unused ∷ first ∷ more) = nat_lt unused 8 && (last_octet (first ∷ more) % (2 ^ unused) == 0)

-- OBJECT IDENTIFIER and RELATIVE-OID: one subidentifier or more (8.19.2, 8.20.2), the last one ended, none of which
-- begins with an octet 80
abbrev pub are_subidentifiers : List ℕ → Bool
are_subidentifiers octets =
    nat_lt 0 (length octets) && nat_lt (last_octet octets) 128 && not (has_padded_component octets)

-- NumericString: digits and space (X.680 41.2, table 9)
abbrev pub is_numeric : ℕ → Bool
is_numeric c = is_ascii_digit c || (c == byte " ")

-- VisibleString: the graphic characters of ISO 646 and space (X.680 41.1, table 8; registration 6)
abbrev pub is_visible : ℕ → Bool
is_visible c = nat_lt 31 c && nat_lt c 127

-- a character that ISO 10646 can have at the number: up to 10FFFF and no surrogate
abbrev pub is_scalar_value : ℕ → Bool
is_scalar_value n = nat_lt n 55296 || (nat_lt 57343 n && nat_lt n 1114112)

-- UniversalString: four octets for each character (8.23.7)
abbrev pub are_universal : List ℕ → Bool
are_universal [] = true
are_universal (a ∷ b ∷ c ∷ d ∷ more) =
    is_scalar_value (((a * 256 + b) * 256 + c) * 256 + d) && are_universal more
are_universal octets = false

-- BMPString: two octets for each character (8.23.8)
abbrev pub are_bmp : List ℕ → Bool
are_bmp [] = true
are_bmp (a ∷ b ∷ more) = is_scalar_value (a * 256 + b) && are_bmp more
are_bmp octets = false

-- GraphicString and ObjectDescriptor (8.23.5): graphic characters, of all sets, and space (X.680 41.1, table 8), and
-- the control functions by which ISO 2022 changes the sets, ESC, SO, SI, SS2 and SS3. No other control character
unfoldable pub is_graphic : ℕ → Bool
is_graphic c =
    (nat_lt 31 c && nat_lt c 128) || nat_lt 159 c || (c == 14) || (c == 15) || (c == 27) || (c == 142) || (c == 143)

-- contents octets with the tag number, as far as `HasDerTime` says no more. Of OCTET STRING (8.7), TeletexString,
-- VideotexString and GeneralString (8.23.5, by escapes of ISO 2022) any octets are right
abbrev pub has_der_octets : ℕ → List ℕ → Bool
has_der_octets tag octets =
    if tag == BOOLEAN then is_boolean octets
    else if (tag == INTEGER) || (tag == ENUMERATED) then is_integer octets
    else if tag == BIT_STRING then is_bit_string octets
    else if tag == NULL then length octets == 0
    else if (tag == OBJECT_IDENTIFIER) || (tag == RELATIVE_OID) then are_subidentifiers octets
    else if tag == REAL then is_real octets
    else if tag == UTF8_STRING then is_utf8 octets
    else if (tag == OBJECT_DESCRIPTOR) || (tag == GRAPHIC_STRING) then list_all is_graphic octets
    else if tag == TIME then is_time octets
    else if tag == NUMERIC_STRING then list_all is_numeric octets
    else if tag == PRINTABLE_STRING then list_all is_printable octets
    else if tag == IA5_STRING then list_all is_ascii octets
    else if tag == VISIBLE_STRING then list_all is_visible octets
    else if tag == UNIVERSAL_STRING then are_universal octets
    else if tag == BMP_STRING then are_bmp octets
    else if tag == TIME_OF_DAY then is_time_of_day octets
    else if tag == DURATION then is_duration octets
    else if tag == OID_IRI then is_iri octets
    else if tag == RELATIVE_OID_IRI then are_labels octets
    else true

-- contents octets of a UTCTime, GeneralizedTime, DATE or DATE-TIME are of a day that exists
abbrev pub HasDerTime : ℕ → List ℕ → Type 0
HasDerTime tag octets =
    MatchBool (tag == UTC_TIME) (IsUtcTime octets)
    (MatchBool (tag == GENERALIZED_TIME) (IsGeneralizedTime octets)
    (MatchBool (tag == DATE) (IsDate octets)
    (MatchBool (tag == DATE_TIME) (IsDateTime octets) (Unit {0}))))

-- contents octets of a primitive encoding with the tag number are DER
abbrev pub HasDerContents : ℕ → List ℕ → Type 0
HasDerContents tag octets = (has_der_octets tag octets ≡ true) × HasDerTime tag octets
