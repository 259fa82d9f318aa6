-- What class and tag say of an encoding, and the names of tags.
use Rattle.std.specs.Prelude.{◌==◌, ◌||◌, ℕ, ◌^◌, nat_lt, Bool, true, false, if◌then◌else◌, unwrap_or, List, ◌++◌, codes, decimal}
use Rattle.asn1_headers.specs.Names.{type_name}
use Rattle.asn1_headers.specs.declared.tags.TheConstants.{SEQUENCE, SET}
use Rattle.asn1_headers.specs.declared.header.ASN1Class.{ASN1Class}
use Rattle.asn1_headers.specs.declared.header.ASN1Class.TheVariants.{Universal, Application, ContextSpecific, Private}

-- the contents octets are encodings: those of a constructed encoding, and of a SEQUENCE or SET
abbrev pub is_gone_into : ASN1Class → Bool → ℕ → Bool
is_gone_into class true tag = true
is_gone_into Universal false tag = tag == SEQUENCE || tag == SET
is_gone_into class false tag = false

-- a tag number in words: in decimal below 2^128
abbrev pub tag_number : ℕ → List ℕ
tag_number tag = if nat_lt tag (2 ^ 128) then decimal tag else codes "beyond 2^128"

-- a tag: the type of class Universal that has it (X.680 8.4, table 1), or its class and number as X.680 writes them
abbrev pub tag_name : ASN1Class → ℕ → List ℕ
tag_name Universal tag =
    unwrap_or (type_name Universal tag) (codes "[UNIVERSAL " ++ (tag_number tag ++ codes "]"))
tag_name Application tag = codes "[APPLICATION " ++ (tag_number tag ++ codes "]")
tag_name ContextSpecific tag = codes "[" ++ (tag_number tag ++ codes "]")
tag_name Private tag = codes "[PRIVATE " ++ (tag_number tag ++ codes "]")
