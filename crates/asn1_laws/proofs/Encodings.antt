-- Encodings of DER by their parts: octets, form and contents octets, and the first of several, for the laws of this
-- crate.
use Rattle.std.proofs.Common.{◌≡◌, ℕ, ◌<◌, ◌≤◌, ◌^◌, Bool, true, false, List, ◌++◌, length, refl, sym, ap, ◌∙◌, arith, length-append}
use Rattle.std.proofs.lemmas.Bool.{false≢true}
use Rattle.asn1_headers.specs.Header.{Encoding}
use Rattle.asn1_headers.specs.declared.header.ASN1Class.{ASN1Class}
use Rattle.asn1_headers.specs.declared.header.ASN1Class.TheVariants.{Universal}
use Rattle.asn1_leaves.specs.StringKind.{utf8, printable, teletex, ia5, universal, bmp}
use Rattle.asn1_blocks.specs.Contents.{group_tag, leaf_tag}
use Rattle.asn1_blocks.specs.Tree.{Leaf, boolean, integer, bit_string, octet_string, null, object_identifier, text, utc_time, generalized_time}
use Rattle.asn1_blocks.specs.declared.block.GroupKind.{GroupKind}
use Rattle.asn1_blocks.specs.declared.block.GroupKind.TheVariants.{Sequence, Set}
use Rattle.asn1_der.specs.Contents.{HasDerContents}
use Rattle.asn1_der.specs.Der.{IsRightAlone, is_constructed_type}

-- an encoding is at least as long as its contents octets
pub length-contents-le : (x : List ℕ) (c : ASN1Class) (k : Bool) (n : ℕ) (v : List ℕ) (h : ℕ) → Encoding x c k n v h →
    length v ≤ length x
length-contents-le x c k n v h e =
    omega (arith, ap length e.whole, length-append e.identifier (e.len ++ v), length-append e.len v)

-- an encoding of fewer than 2 ^ 64 octets has fewer than 2 ^ 64 contents octets
pub length-contents-lt : (x : List ℕ) (c : ASN1Class) (k : Bool) (n : ℕ) (v : List ℕ) (h : ℕ) → Encoding x c k n v h →
    length x < 2 ^ 64 → length v < 2 ^ 64
length-contents-lt x c k n v h e small =
    omega (arith, small, length-contents-le x c k n v h e)

-- a leaf is of no type that is constructed
is_constructed_type-leaf_tag : (l : Leaf) → is_constructed_type (leaf_tag l) ≡ false
is_constructed_type-leaf_tag (boolean b) = refl
is_constructed_type-leaf_tag (integer n) = refl
is_constructed_type-leaf_tag (bit_string n v) = refl
is_constructed_type-leaf_tag (octet_string v) = refl
is_constructed_type-leaf_tag null = refl
is_constructed_type-leaf_tag (object_identifier ns) = refl
is_constructed_type-leaf_tag (text utf8 cs) = refl
is_constructed_type-leaf_tag (text printable cs) = refl
is_constructed_type-leaf_tag (text teletex cs) = refl
is_constructed_type-leaf_tag (text ia5 cs) = refl
is_constructed_type-leaf_tag (text universal cs) = refl
is_constructed_type-leaf_tag (text bmp cs) = refl
is_constructed_type-leaf_tag (utc_time m) = refl
is_constructed_type-leaf_tag (generalized_time m) = refl

-- an encoding of DER of a type that is not constructed is primitive
pub IsRightAlone-primitive :
    (n : ℕ) (k : Bool) (v : List ℕ) → is_constructed_type n ≡ false → IsRightAlone Universal k n v →
    (k ≡ false) × HasDerContents n v
IsRightAlone-primitive n true v e r = absurd (false≢true (sym e ∙ r.0))
IsRightAlone-primitive n false v e r = (refl, r.2)

-- an encoding with the tag of a leaf that is right by itself is primitive, and its contents octets are DER
pub IsRightAlone-leaf : (l : Leaf) (k : Bool) (v : List ℕ) → IsRightAlone Universal k (leaf_tag l) v →
    (k ≡ false) × HasDerContents (leaf_tag l) v
IsRightAlone-leaf l k v r = IsRightAlone-primitive (leaf_tag l) k v (is_constructed_type-leaf_tag l) r

-- the tag of a group is one of a constructed type
is_constructed_type-group_tag : (g : GroupKind) → is_constructed_type (group_tag g) ≡ true
is_constructed_type-group_tag Sequence = refl
is_constructed_type-group_tag Set = refl

-- a SEQUENCE or SET of DER is constructed
pub IsRightAlone-group : (g : GroupKind) (k : Bool) (v : List ℕ) → IsRightAlone Universal k (group_tag g) v → k ≡ true
IsRightAlone-group g true v r = refl
IsRightAlone-group g false v r = absurd (false≢true (sym r.1 ∙ is_constructed_type-group_tag g))
