-- What an `Unknown` of class Universal holds where no variant of a block has its type: the number of an ENUMERATED, and
-- the text of a NumericString, a VisibleString and a GeneralString.
use Rattle.std.specs.Prelude.{◌==◌, ◌||◌, ◌&&◌, ℕ, ℤ, Bool, false, not, List, nat_lt, if◌then◌else◌, Option, Some, None}
use Rattle.std.specs.Int.{is_in_range}
use Rattle.std.specs.List.{list_all}
use Rattle.asn1_headers.specs.declared.tags.TheConstants.{ENUMERATED, NUMERIC_STRING, VISIBLE_STRING, GENERAL_STRING}
use Rattle.asn1_headers.specs.declared.header.ASN1Class.TheVariants.{Universal}
use Rattle.asn1_numbers.specs.TwosComplement.{signed_number}
use Rattle.asn1_leaves.specs.Contents.Integer.{is_shortest_integer}
use Rattle.asn1_blocks.specs.Tree.{Tree, unknown}

-- the number of an ENUMERATED, which has tag number 10 and the contents octets of an INTEGER (X.690 8.4)
abbrev pub primitive_enumerated : ℕ → List ℕ → Option ℤ
primitive_enumerated tag contents =
    if (tag == ENUMERATED) && is_shortest_integer contents then Some (signed_number contents) else None

-- the tag number of a NumericString, a VisibleString or a GeneralString (X.680 table 8)
abbrev pub is_ascii_tag : ℕ → Bool
is_ascii_tag tag = (tag == NUMERIC_STRING) || (tag == VISIBLE_STRING) || (tag == GENERAL_STRING)

-- a digit or the space (X.680 41.2)
abbrev pub is_numeric : ℕ → Bool
is_numeric c = (c == 32) || is_in_range 48 57 c

-- a printing character of ASCII or the space (X.680 table 8)
abbrev pub is_visible : ℕ → Bool
is_visible c = is_in_range 32 126 c

-- any character of ASCII, which a GeneralString begins with (X.690 8.23.5, table 3), but SO, SI and ESC, which call in
-- characters of other sets
abbrev pub is_general : ℕ → Bool
is_general c = nat_lt c 128 && not ((c == 14) || (c == 15) || (c == 27))

-- the characters of a string of ASCII with the tag number
abbrev pub is_ascii_character : ℕ → ℕ → Bool
is_ascii_character tag c =
    if tag == NUMERIC_STRING then is_numeric c else if tag == VISIBLE_STRING then is_visible c else is_general c

-- the text of a string of ASCII, which has an octet for each character (X.690 8.23)
abbrev pub primitive_ascii_text : ℕ → List ℕ → Option (List ℕ)
primitive_ascii_text tag contents =
    if is_ascii_tag tag && list_all (is_ascii_character tag) contents then Some contents else None

-- the number of an ENUMERATED
abbrev pub tree_enumerated : {O : Type 0} → Tree O → Option ℤ
tree_enumerated (unknown Universal false o tag contents) = primitive_enumerated tag contents
tree_enumerated b = None

-- the characters of a NumericString, a VisibleString or a GeneralString
abbrev pub tree_ascii_text : {O : Type 0} → Tree O → Option (List ℕ)
tree_ascii_text (unknown Universal false o tag contents) = primitive_ascii_text tag contents
tree_ascii_text b = None
