-- Contents octets of class Universal: a module for each kind that has a rule says what the octets mean, how they are at
-- fault, what is written and what can't be; here is which tag has which.
use Rattle.std.specs.Prelude.{◌≡◌, ◌≢◌, ◌==◌, ◌||◌, ℕ, Bool, List, [], length, if◌then◌else◌, Option, None}
use Rattle.asn1_blocks.specs.declared.block.GroupKind.{GroupKind}
use Rattle.asn1_blocks.specs.declared.block.GroupKind.TheVariants.{Sequence, Set}
use Rattle.asn1_headers.specs.declared.tags.TheConstants.{BOOLEAN, INTEGER, BIT_STRING, OCTET_STRING, NULL, OBJECT_IDENTIFIER, UTF8_STRING, SEQUENCE, SET, PRINTABLE_STRING, TELETEX_STRING, IA5_STRING, UTC_TIME, GENERALIZED_TIME, UNIVERSAL_STRING, BMP_STRING}
use Rattle.asn1_headers.specs.declared.error.ASN1EncodeErr.{ASN1EncodeErr}
use Rattle.asn1_leaves.specs.StringKind.{StringKind, utf8, printable, teletex, ia5, universal, bmp}
use Rattle.asn1_blocks.specs.Tree.{Leaf, boolean, integer, bit_string, octet_string, null, object_identifier, text, utc_time, generalized_time}
use Rattle.asn1_headers.specs.Fault.{DecodeFault, bad_boolean_length, incomplete, printable_string_failure, utf8_fault}
use Rattle.asn1_leaves.specs.Contents.Boolean.{BooleanContents, boolean_contents}
use Rattle.asn1_leaves.specs.Contents.Integer.{IntegerContents, integer_contents}
use Rattle.asn1_leaves.specs.Contents.BitString.{BitStringContents, IsFaithfulBitString, bit_string_contents, bit_string_fault, bit_string_write_fault, written_bits}
use Rattle.asn1_leaves.specs.Contents.GeneralizedTime.{GeneralizedTimeContents, IsFaithfulGeneralizedTime, generalized_time_contents, generalized_time_fault}
use Rattle.asn1_leaves.specs.Contents.Moment.{moment_write_fault}
use Rattle.asn1_leaves.specs.Contents.ObjectIdentifier.{IsFaithfulObjectIdentifier, ObjectIdentifierContents, object_identifier_contents, object_identifier_write_fault}
use Rattle.asn1_leaves.specs.Contents.UtcTime.{IsFaithfulUtcTime, UtcTimeContents, utc_time_contents, utc_time_fault}
use Rattle.asn1_leaves.specs.Contents.Text.{text_form, HasCharacters, TextContents, text_contents, text_write_fault}

-- the tag number of a string of characters (X.680 table 8)
abbrev pub string_tag : StringKind → ℕ
string_tag utf8 = UTF8_STRING
string_tag printable = PRINTABLE_STRING
string_tag teletex = TELETEX_STRING
string_tag ia5 = IA5_STRING
string_tag universal = UNIVERSAL_STRING
string_tag bmp = BMP_STRING

-- the tag number of a leaf (X.680 table 1)
abbrev pub leaf_tag : Leaf → ℕ
leaf_tag (boolean b) = BOOLEAN
leaf_tag (integer n) = INTEGER
leaf_tag (bit_string n v) = BIT_STRING
leaf_tag (octet_string v) = OCTET_STRING
leaf_tag null = NULL
leaf_tag (object_identifier ns) = OBJECT_IDENTIFIER
leaf_tag (text kind cs) = string_tag kind
leaf_tag (utc_time m) = UTC_TIME
leaf_tag (generalized_time m) = GENERALIZED_TIME

-- the tag number of a SEQUENCE or SET
abbrev pub group_tag : GroupKind → ℕ
group_tag Sequence = SEQUENCE
group_tag Set = SET

-- the tag number of no leaf, no SEQUENCE and no SET: what has it is read as `Unknown`
abbrev pub IsUnknownTag : ℕ → Type 0
IsUnknownTag tag = ((l : Leaf) → tag ≢ leaf_tag l) × ((g : GroupKind) → tag ≢ group_tag g)

abbrev pub is_string_tag : ℕ → Bool
is_string_tag n =
    (n == UTF8_STRING) || (n == PRINTABLE_STRING) || (n == TELETEX_STRING) || (n == IA5_STRING)
    || (n == UNIVERSAL_STRING) || (n == BMP_STRING)

abbrev pub is_leaf_tag : ℕ → Bool
is_leaf_tag n =
    (n == BOOLEAN) || (n == INTEGER) || (n == BIT_STRING) || (n == OCTET_STRING) || (n == NULL)
    || (n == OBJECT_IDENTIFIER) || (n == UTC_TIME) || (n == GENERALIZED_TIME) || is_string_tag n

abbrev pub is_group_tag : ℕ → Bool
is_group_tag n = (n == SEQUENCE) || (n == SET)

-- the tag numbers that are read as more than `Unknown`
abbrev pub is_known_tag : ℕ → Bool
is_known_tag n = is_leaf_tag n || is_group_tag n

-- the contents octets mean the leaf; those of an OCTET STRING (X.690 8.7) are its octets, and those of a NULL (X.690
-- 8.8) may be any
abbrev pub LeafContents : Leaf → List ℕ → Type 0
LeafContents (boolean b) contents = BooleanContents b contents
LeafContents (integer n) contents = IntegerContents n contents
LeafContents (bit_string n v) contents = BitStringContents n v contents
LeafContents (octet_string v) contents = v ≡ contents
LeafContents null contents = Unit {0}
LeafContents (object_identifier ns) contents = ObjectIdentifierContents ns contents
LeafContents (text kind cs) contents = TextContents (text_form kind) cs contents
LeafContents (utc_time m) contents = UtcTimeContents m contents
LeafContents (generalized_time m) contents = GeneralizedTimeContents m contents

-- the fault of contents octets that mean no leaf of this tag
abbrev pub leaf_fault : ℕ → List ℕ → DecodeFault
leaf_fault tag contents =
    if tag == BOOLEAN then bad_boolean_length (length contents)
    else if tag == BIT_STRING then bit_string_fault contents
    else if tag == OBJECT_IDENTIFIER then incomplete
    else if tag == UTC_TIME then utc_time_fault contents
    else if tag == GENERALIZED_TIME then generalized_time_fault contents
    else if tag == PRINTABLE_STRING then printable_string_failure
    else utf8_fault contents

-- the contents octets of this tag, that of a leaf, mean none, with this fault
pub record LeafFault (tag : ℕ) (contents : List ℕ) (fault : DecodeFault) : Type 0 where
  pub kind : Leaf
  pub of_kind : tag ≡ leaf_tag kind
  pub none : (l : Leaf) → tag ≡ leaf_tag l → LeafContents l contents → ⊥
  pub is : fault ≡ leaf_fault tag contents

-- the contents octets of a leaf that are written
abbrev pub leaf_contents : Leaf → List ℕ
leaf_contents (boolean b) = boolean_contents b
leaf_contents (integer n) = integer_contents n
leaf_contents (bit_string n v) = bit_string_contents n v
leaf_contents (octet_string v) = v
leaf_contents null = []
leaf_contents (object_identifier ns) = object_identifier_contents ns
leaf_contents (text kind cs) = text_contents (text_form kind) cs
leaf_contents (utc_time m) = utc_time_contents m
leaf_contents (generalized_time m) = generalized_time_contents m

-- why a leaf can't be written
abbrev pub leaf_write_fault : Leaf → Option ASN1EncodeErr
leaf_write_fault (boolean b) = None
leaf_write_fault (integer n) = None
leaf_write_fault (bit_string n v) = bit_string_write_fault n v
leaf_write_fault (octet_string v) = None
leaf_write_fault null = None
leaf_write_fault (object_identifier ns) = object_identifier_write_fault ns
leaf_write_fault (text kind cs) = text_write_fault (text_form kind) cs
leaf_write_fault (utc_time m) = moment_write_fault m
leaf_write_fault (generalized_time m) = moment_write_fault m

-- the leaf is read back as it is, once it is written
abbrev pub IsFaithfulLeaf : Leaf → Type 0
IsFaithfulLeaf (boolean b) = Unit {0}
IsFaithfulLeaf (integer n) = Unit {0}
IsFaithfulLeaf (bit_string n v) = IsFaithfulBitString n v
IsFaithfulLeaf (octet_string v) = Unit {0}
IsFaithfulLeaf null = Unit {0}
IsFaithfulLeaf (object_identifier ns) = IsFaithfulObjectIdentifier ns
IsFaithfulLeaf (text kind cs) = HasCharacters (text_form kind) cs
IsFaithfulLeaf (utc_time m) = IsFaithfulUtcTime m
IsFaithfulLeaf (generalized_time m) = IsFaithfulGeneralizedTime m

-- what is left of a leaf when it is written and read: a bit string of no bits loses its octets
abbrev pub normalized_leaf : Leaf → Leaf
normalized_leaf (boolean b) = boolean b
normalized_leaf (integer n) = integer n
normalized_leaf (bit_string n v) = bit_string n (written_bits n v)
normalized_leaf (octet_string v) = octet_string v
normalized_leaf null = null
normalized_leaf (object_identifier ns) = object_identifier ns
normalized_leaf (text kind cs) = text kind cs
normalized_leaf (utc_time m) = utc_time m
normalized_leaf (generalized_time m) = generalized_time m
