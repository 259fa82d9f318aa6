-- The values of contents octets of primitive encodings.
use Rattle.std.specs.Prelude.{◌≡◌, ◌≢◌, ◌⊎◌, ◌==◌, ◌||◌, ◌&&◌, not, ℕ, ◌<◌, Bool, true, false, List, [], ◌∷◌, length, IfSome, Option, None, Some, string_bytes}
use Rattle.std.specs.Str.{chars}
use Rattle.asn1_numbers.specs.TwosComplement.{signed_number}
use Rattle.asn1_headers.specs.declared.tags.TheConstants.{ENUMERATED, TELETEX_STRING, UNIVERSAL_STRING, BMP_STRING, UTC_TIME, GENERALIZED_TIME}
use Rattle.asn1_headers.specs.Fault.{DecodeFault}
use Rattle.asn1_headers.specs.declared.header.ASN1Class.{ASN1Class}
use Rattle.asn1_headers.specs.declared.header.ASN1Class.TheVariants.{Universal}
use Rattle.asn1_leaves.specs.Contents.Moment.{Moment}
use Rattle.asn1_leaves.specs.Contents.ObjectIdentifier.{object_identifier_contents}
use Rattle.asn1_leaves.specs.DottedDecimal.{dotted_decimal}
use Rattle.asn1_leaves.specs.StringKind.{StringKind}
use Rattle.asn1_blocks.specs.Contents.{LeafContents, LeafFault, is_leaf_tag, leaf_tag}
use Rattle.asn1_blocks.specs.Tree.{Leaf, bit_string, boolean, generalized_time, integer, null, object_identifier, octet_string, text, utc_time}
use Rattle.dump_values.specs.Times.{AreFractionOf, IsMomentText}
use Rattle.dump_values.specs.Faults.{IsFault, IsNamed}
use Rattle.dump_values.specs.declared.faults.Fault.{Fault}
use Rattle.dump_values.specs.declared.value.Identifier.{Identifier}
use Rattle.dump_values.specs.declared.value.LeafValue.{LeafValue}
use Rattle.dump_values.specs.declared.value.LeafValue.TheVariants.{Address, BerTime, Bits, Boolean, Identifier as OfIdentifier, Integer, Moment as OfMoment, NoText, Notation, Null, Octets, Other, OtherText, Tagged, Text, WideText}

-- strings that the library takes for UTF-8 where X.690 has other characters: TeletexString, UniversalString, BMPString
abbrev pub is_wide : ASN1Class → ℕ → Bool
is_wide Universal tag = (tag == TELETEX_STRING) || (tag == UNIVERSAL_STRING) || (tag == BMP_STRING)
is_wide class tag = false

-- the tags of UniversalString and BMPString
abbrev pub is_wide_tag : ℕ → Bool
is_wide_tag tag = (tag == UNIVERSAL_STRING) || (tag == BMP_STRING)

-- contents octets of a UniversalString or a BMPString that is not empty: X.690 has characters of four or of two octets
-- there (8.23.7, 8.23.8), which the library takes for UTF-8
abbrev pub has_wide_characters : ASN1Class → ℕ → List ℕ → Bool
has_wide_characters Universal tag contents = not (length contents == 0) && is_wide_tag tag
has_wide_characters class tag contents = false

-- UTCTime and GeneralizedTime, of which BER has more forms than those that the library reads (X.680 46.3, 47.3)
abbrev pub is_time : ASN1Class → ℕ → Bool
is_time Universal tag = (tag == UTC_TIME) || (tag == GENERALIZED_TIME)
is_time class tag = false

-- contents octets with the class and the tag mean the leaf
abbrev pub IsLeaf : ASN1Class → ℕ → List ℕ → Leaf → Type 0
IsLeaf class tag contents l = (class ≡ Universal) × (tag ≡ leaf_tag l) × LeafContents l contents

-- the tag of class Universal is that of no leaf
abbrev pub IsNoLeaf : ASN1Class → ℕ → Type 0
IsNoLeaf class tag = (class ≡ Universal) × (is_leaf_tag tag ≡ false)

-- one contents octet has the first two components (X.690 8.19.4)
abbrev pub HasShortFront : List ℕ → Type 0
HasShortFront components =
    (octet : ℕ) × (rest : List ℕ) × (object_identifier_contents components ≡ octet ∷ rest) × (octet < 128)

-- the object identifier of contents octets that the library reads as these components. Where its first subidentifier
-- has more octets, its components are others
abbrev pub IsIdentifier : List ℕ → Identifier → Type 0
IsIdentifier components identifier =
    (HasShortFront components → identifier.components ≡ components)
    × IfSome identifier.dotted (λ dotted. string_bytes dotted ≡ dotted_decimal identifier.components)

-- the text of the moment that contents octets mean
abbrev pub IsMomentOf : ASN1Class → ℕ → List ℕ → List ℕ → Type 0
IsMomentOf class tag contents shown =
    ((m : Moment) × IsLeaf class tag contents (utc_time m) × IsMomentText m [] shown)
    ⊎ ((m : Moment) × IsLeaf class tag contents (generalized_time m)
    × ((digits : List ℕ) × AreFractionOf contents digits × IsMomentText m digits shown))

-- contents octets with the class and the tag, in which nothing is wrong, have the value
abbrev pub IsValue : ASN1Class → ℕ → List ℕ → LeafValue → Type 0
IsValue class tag contents (Boolean is_true) = IsLeaf class tag contents (boolean is_true)
IsValue class tag contents (Integer n) =
    IsLeaf class tag contents (integer n)
    ⊎ ((class ≡ Universal) × (tag ≡ ENUMERATED) × (n ≡ signed_number contents))
IsValue class tag contents (Bits bits) = IsLeaf class tag contents (bit_string bits.count bits.octets.items)
IsValue class tag contents (Octets shown) = IsLeaf class tag contents (octet_string contents)
IsValue class tag contents Null = IsLeaf class tag contents null
IsValue class tag contents (OfIdentifier identifier) =
    (components : List ℕ) × IsLeaf class tag contents (object_identifier components)
    × IsIdentifier components identifier
IsValue class tag contents (Text characters) =
    (has_wide_characters class tag contents ≡ false)
    × ((kind : StringKind) × IsLeaf class tag contents (text kind (chars (string_bytes characters))))
IsValue class tag contents (WideText form characters) = is_wide class tag ≡ true
IsValue class tag contents (OtherText characters) = IsNoLeaf class tag × (string_bytes characters ≡ contents)
IsValue class tag contents (Notation shown) = IsNoLeaf class tag
IsValue class tag contents (OfMoment time) = IsMomentOf class tag contents (string_bytes time.text)
IsValue class tag contents (BerTime time) = is_time class tag ≡ true
IsValue class tag contents (Other shown) = IsNoLeaf class tag
IsValue class tag contents (Tagged shown) = class ≢ Universal
IsValue class tag contents (Address address) = class ≢ Universal
IsValue class tag contents (NoText shown) =
    ((has_wide_characters class tag contents ≡ true)
    × ((kind : StringKind) × (characters : List ℕ) × IsLeaf class tag contents (text kind characters)))
    ⊎ IsNoLeaf class tag

-- contents octets with the tag of class Universal have the value. Under a tag of another class it is that of a type
-- which a table says
abbrev pub HasValue : ASN1Class → ℕ → List ℕ → LeafValue → Type 0
HasValue class tag contents value = class ≡ Universal → IsValue class tag contents value

-- the value of contents octets with the class and the tag, or what is wrong with them, at the offset
abbrev pub IsMeaning : ASN1Class → ℕ → List ℕ → ℕ → Option LeafValue → Option Fault → Type 0
IsMeaning class tag contents offset None fault =
    (class ≡ Universal)
    × ((found : DecodeFault) × LeafFault tag contents found × IsFault (IsNamed offset found) fault)
IsMeaning class tag contents offset (Some value) fault = HasValue class tag contents value × (fault ≡ None)
