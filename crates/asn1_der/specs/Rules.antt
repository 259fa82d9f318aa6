-- The rules of DER: which clauses say them, and which of them an encoding breaks where it is not DER.
use Rattle.std.specs.Prelude.{◌==◌, ◌&&◌, ◌||◌, ℕ, nat_lt, Bool, true, false, if◌then◌else◌, Option, None, Some, List, [], ◌∷◌, codes, length}
use Rattle.asn1_headers.specs.declared.tags.TheConstants.{BOOLEAN, INTEGER, BIT_STRING, OCTET_STRING, NULL, OBJECT_IDENTIFIER, OBJECT_DESCRIPTOR, EXTERNAL, REAL, ENUMERATED, EMBEDDED_PDV, UTF8_STRING, RELATIVE_OID, TIME, NUMERIC_STRING, PRINTABLE_STRING, TELETEX_STRING, VIDEOTEX_STRING, IA5_STRING, UTC_TIME, GENERALIZED_TIME, GRAPHIC_STRING, VISIBLE_STRING, GENERAL_STRING, UNIVERSAL_STRING, CHARACTER_STRING, BMP_STRING, OID_IRI, RELATIVE_OID_IRI}
use Rattle.std.specs.List.{list_any}
use Rattle.std.specs.Option.{unwrap_or}
use Rattle.asn1_der.specs.Der.{is_constructed_type, is_reserved}
use Rattle.asn1_der.specs.declared.rule.Rule.{Rule}
use Rattle.asn1_der.specs.declared.rule.Rule.TheVariants.{LongIdentifier, PaddedTag, IndefiniteLength, LongLength, ReservedTag, NotConstructed, NotPrimitive, ConstructedString, BooleanSize, BooleanValue, NoInteger, PaddedInteger, SpecialReal, BinaryReal, DecimalReal, UnusedCount, UnusedOfNone, UnusedBits, NullContents, Subidentifiers, Iri, Characters, UtcTime, GeneralizedTime, Time, Order, NotEncodings, External, Identification}

-- the clauses that say the rule, of X.690, unless X.680 is named
abbrev pub section_of : Rule → List ℕ
section_of LongIdentifier = codes "8.1.2.2"
section_of PaddedTag = codes "8.1.2.4.2"
section_of IndefiniteLength = codes "8.1.3.2, 10.1"
section_of LongLength = codes "10.1"
section_of ReservedTag = codes "X.680 8.4"
section_of NotConstructed = codes "8.9.1, 8.11.1, 8.17, 8.18, 8.24"
section_of NotPrimitive = codes "8.2.1, 8.3.1, 8.5.1, 8.8.1, 8.19.1, 8.20.1, 8.21, 8.22, 8.26"
section_of ConstructedString = codes "10.2"
section_of BooleanSize = codes "8.2.1"
section_of BooleanValue = codes "8.2.2, 11.1"
section_of NoInteger = codes "8.3.1"
section_of PaddedInteger = codes "8.3.2"
section_of SpecialReal = codes "8.5.9"
section_of BinaryReal = codes "8.5.7, 11.3.1"
section_of DecimalReal = codes "8.5.8, 11.3.2"
section_of UnusedCount = codes "8.6.2.2"
section_of UnusedOfNone = codes "8.6.2.3"
section_of UnusedBits = codes "11.2.1"
section_of NullContents = codes "8.8.2"
section_of Subidentifiers = codes "8.19.2, 8.20.2"
section_of Iri = codes "8.21, 8.22"
section_of Characters = codes "8.23, X.680 41"
section_of UtcTime = codes "11.8"
section_of GeneralizedTime = codes "11.7"
section_of Time = codes "8.26"
section_of Order = codes "10.3, 11.6"
section_of NotEncodings = codes "8.9.2, 8.10.2, 8.11.2, 8.12.2, 8.14"
section_of External = codes "8.18"
section_of Identification = codes "8.17, 8.24"

-- what is wrong where a rule is broken
abbrev pub text_of : Rule → List ℕ
text_of LongIdentifier = codes "tag number below 31 in more than one byte"
text_of PaddedTag = codes "tag number not in the fewest bytes"
text_of IndefiniteLength = codes "indefinite length"
text_of LongLength = codes "length not in the fewest bytes"
text_of ReservedTag = codes "reserved tag"
text_of NotConstructed = codes "primitive, but the type is constructed"
text_of NotPrimitive = codes "constructed, but the type is primitive"
text_of ConstructedString = codes "string in pieces"
text_of BooleanSize = codes "BOOLEAN not of one byte"
text_of BooleanValue = codes "BOOLEAN neither 00 nor FF"
text_of NoInteger = codes "number without bytes"
text_of PaddedInteger = codes "number not in the fewest bytes"
text_of SpecialReal = codes "special REAL that there is not"
text_of BinaryReal = codes "binary REAL not in its one form"
text_of DecimalReal = codes "decimal REAL not in its one form"
text_of UnusedCount = codes "no number of unused bits from 0 to 7"
text_of UnusedOfNone = codes "unused bits of no bits"
text_of UnusedBits = codes "unused bits not 0"
text_of NullContents = codes "NULL with contents"
text_of Subidentifiers = codes "subidentifiers missing, cut off or not in the fewest bytes"
text_of Iri = codes "no internationalized resource identifier"
text_of Characters = codes "characters that the type does not have"
text_of UtcTime = codes "not YYMMDDhhmmssZ of a moment that exists"
text_of GeneralizedTime = codes "not YYYYMMDDhhmmss[.f]Z of a moment that exists"
text_of Time = codes "no date or time of the type"
text_of Order = codes "SET out of order"
text_of NotEncodings = codes "contents that are not encodings"
text_of External = codes "not a reference and an encoding"
text_of Identification = codes "not an identification and a value"

-- the rule that identifier octets break which are not the shortest: those of a tag number below 31 are one octet
-- (8.1.2.2), and any other tag number is in the fewest octets (8.1.2.4.2)
abbrev pub identifier_rule : ℕ → Rule
identifier_rule tag = if nat_lt tag 31 then LongIdentifier else PaddedTag

-- the types of which BER has constructed encodings too, which DER has not (10.2)
abbrev pub is_string : ℕ → Bool
is_string tag = list_any (λ t. tag == t)
    (BIT_STRING ∷ OCTET_STRING ∷ OBJECT_DESCRIPTOR ∷ UTF8_STRING ∷ NUMERIC_STRING ∷ PRINTABLE_STRING
    ∷ TELETEX_STRING ∷ VIDEOTEX_STRING ∷ IA5_STRING ∷ UTC_TIME ∷ GENERALIZED_TIME ∷ GRAPHIC_STRING
    ∷ VISIBLE_STRING ∷ GENERAL_STRING ∷ UNIVERSAL_STRING ∷ BMP_STRING ∷ [])

-- what an encoding of class Universal breaks already by being primitive or constructed with its tag
abbrev pub form_rule : Bool → ℕ → Option Rule
form_rule true tag =
    if is_reserved tag then Some ReservedTag
    else if is_constructed_type tag then None
    else if is_string tag then Some ConstructedString
    else Some NotPrimitive
form_rule false tag =
    if is_reserved tag then Some ReservedTag
    else if is_constructed_type tag then Some NotConstructed
    else None

-- what a BIT STRING breaks that is not DER
abbrev pub bits_rule : List ℕ → Rule
bits_rule [] = UnusedCount
bits_rule (unused ∷ []) = if nat_lt unused 8 then UnusedOfNone else UnusedCount
bits_rule (unused ∷ first ∷ more) = if nat_lt unused 8 then UnusedBits else UnusedCount

-- what a REAL breaks that is not DER, by bits 8 and 7 of its first octet (8.5.6)
abbrev pub real_rule : List ℕ → Rule
real_rule [] = SpecialReal
real_rule (first ∷ more) =
    if nat_lt 127 first then BinaryReal else if nat_lt first 64 then DecimalReal else SpecialReal

-- what contents octets break that are not those of DER with the tag number
abbrev pub contents_rule : ℕ → List ℕ → Rule
contents_rule tag contents =
    if tag == BOOLEAN then (if length contents == 1 then BooleanValue else BooleanSize)
    else if (tag == INTEGER) || (tag == ENUMERATED) then (if length contents == 0 then NoInteger else PaddedInteger)
    else if tag == BIT_STRING then bits_rule contents
    else if tag == NULL then NullContents
    else if (tag == OBJECT_IDENTIFIER) || (tag == RELATIVE_OID) then Subidentifiers
    else if tag == REAL then real_rule contents
    else if tag == UTC_TIME then UtcTime
    else if tag == GENERALIZED_TIME then GeneralizedTime
    else if (tag == TIME) || (nat_lt BMP_STRING tag && nat_lt tag OID_IRI) then Time
    else if (tag == OID_IRI) || (tag == RELATIVE_OID_IRI) then Iri
    else Characters

-- what encodings break that are not those of the constructed type with the tag number. A SEQUENCE has any
abbrev pub items_rule : ℕ → Rule
items_rule tag =
    if tag == EXTERNAL then External
    else if (tag == EMBEDDED_PDV) || (tag == CHARACTER_STRING) then Identification
    else Order

-- what an encoding of class Universal breaks by its tag, its form and its contents octets, where it breaks one
abbrev pub type_rule : Bool → ℕ → List ℕ → Rule
type_rule constructed tag contents =
    unwrap_or (form_rule constructed tag) (if constructed then items_rule tag else contents_rule tag contents)
