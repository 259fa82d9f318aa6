-- How types, classes and faults are called.
use Rattle.std.specs.Prelude.{ℕ, List, [], ◌∷◌, Option, None, Some, codes, get_or}
use Rattle.asn1_headers.specs.declared.header.ASN1Class.{ASN1Class}
use Rattle.asn1_headers.specs.declared.header.ASN1Class.TheVariants.{Universal, Application, ContextSpecific, Private}
use Rattle.asn1_headers.specs.Fault.{DecodeFault, empty_buffer, bad_boolean_length, length_too_large, utf8_failure, printable_string_failure, invalid_date_value, invalid_bit_string_length, invalid_class, incomplete, overflow, out_of_memory, not_canonical}

-- how the type of class Universal with each tag number is called (X.680 8.4, table 1), from 0 on
abbrev pub universal_names : List (Option (List ℕ))
universal_names =
    Some (codes "end-of-contents") ∷ Some (codes "BOOLEAN") ∷ Some (codes "INTEGER") ∷
    Some (codes "BIT STRING") ∷ Some (codes "OCTET STRING") ∷ Some (codes "NULL") ∷
    Some (codes "OBJECT IDENTIFIER") ∷ Some (codes "ObjectDescriptor") ∷ Some (codes "EXTERNAL") ∷
    Some (codes "REAL") ∷ Some (codes "ENUMERATED") ∷ Some (codes "EMBEDDED PDV") ∷
    Some (codes "UTF8String") ∷ Some (codes "RELATIVE-OID") ∷ Some (codes "TIME") ∷ None ∷
    Some (codes "SEQUENCE") ∷ Some (codes "SET") ∷ Some (codes "NumericString") ∷
    Some (codes "PrintableString") ∷ Some (codes "TeletexString") ∷ Some (codes "VideotexString") ∷
    Some (codes "IA5String") ∷ Some (codes "UTCTime") ∷ Some (codes "GeneralizedTime") ∷
    Some (codes "GraphicString") ∷ Some (codes "VisibleString") ∷ Some (codes "GeneralString") ∷
    Some (codes "UniversalString") ∷ Some (codes "CHARACTER STRING") ∷ Some (codes "BMPString") ∷
    Some (codes "DATE") ∷ Some (codes "TIME-OF-DAY") ∷ Some (codes "DATE-TIME") ∷ Some (codes "DURATION") ∷
    Some (codes "OID-IRI") ∷ Some (codes "RELATIVE-OID-IRI") ∷ []

-- how the type with a class and a tag number is called, if it has a name
abbrev pub type_name : ASN1Class → ℕ → Option (List ℕ)
type_name Universal tag = get_or universal_names tag None
type_name Application tag = None
type_name ContextSpecific tag = None
type_name Private tag = None

-- how a class is called (X.690 table 1)
abbrev pub class_name : ASN1Class → List ℕ
class_name Universal = codes "universal"
class_name Application = codes "application"
class_name ContextSpecific = codes "context-specific"
class_name Private = codes "private"

-- how a fault is called
abbrev pub fault_name : DecodeFault → List ℕ
fault_name empty_buffer = codes "EmptyBuffer"
fault_name (bad_boolean_length n) = codes "BadBooleanLength"
fault_name (length_too_large n) = codes "LengthTooLarge"
fault_name (utf8_failure n size) = codes "UTF8DecodeFailure"
fault_name printable_string_failure = codes "PrintableStringDecodeFailure"
fault_name (invalid_date_value text) = codes "InvalidDateValue"
fault_name (invalid_bit_string_length n) = codes "InvalidBitStringLength"
fault_name (invalid_class n) = codes "InvalidClass"
fault_name incomplete = codes "Incomplete"
fault_name overflow = codes "Overflow"
fault_name out_of_memory = codes "OutOfMemory"
fault_name (not_canonical n) = codes "NotCanonical"
