-- Trees that are written as DER.
use Rattle.std.specs.Prelude.{◌≡◌, ◌==◌, ◌&&◌, ◌||◌, ℕ, ◌+◌, ◌-◌, ◌*◌, ◌%◌, ◌^◌, nat_lt, Bool, true, false, List, [], ◌∷◌, length, encode_utf8_all}
use Rattle.std.specs.Char.{is_ascii}
use Rattle.std.specs.List.{list_all}
use Rattle.asn1_headers.specs.declared.header.ASN1Class.{ASN1Class}
use Rattle.asn1_leaves.specs.StringKind.{StringKind, utf8, printable, teletex, ia5, universal, bmp}
use Rattle.asn1_blocks.specs.Tree.{Leaf, Tree, Trees, leaf, group, explicit, unknown, no_trees, more_trees, boolean, integer, bit_string, octet_string, null, object_identifier, text, utc_time, generalized_time}
use Rattle.asn1_blocks.specs.declared.block.GroupKind.TheVariants.{Sequence, Set}
use Rattle.asn1_der.specs.Contents.{are_bmp, are_universal}
use Rattle.asn1_der.specs.Der.{AreDerEncodings, IsInOrder, IsRightAlone}
use Rattle.asn1_der.specs.Padding.{last_octet}
use Rattle.asn1_writing.specs.Canonical.{canonical}

-- a bit or more (8.6.2.3: without bits an octet is missing), at most 7 unused ones behind them (8.6.2.2), which are 0
-- (11.2.1)
abbrev pub are_der_bits : ℕ → List ℕ → Bool
are_der_bits n octets =
    nat_lt 0 n && nat_lt (8 * length octets) (n + 8) && (last_octet octets % (2 ^ (8 * length octets - n)) == 0)

-- the number of the first two components (8.19.4) is written in one octet. Below 128 that is its subidentifier; above,
-- DER reads on in the octets of the next component, which has to be there; and no subidentifier begins with an octet 80
abbrev pub are_der_components : List ℕ → Bool
are_der_components (x ∷ y ∷ ns) =
    nat_lt (40 * x + y) 128 || (nat_lt 128 (40 * x + y) && nat_lt 0 (length ns))
are_der_components ns = false

-- an IA5String has the characters of ASCII. UniversalString and BMPString are written in UTF-8: it is DER where its
-- octets happen to be such characters in four or two octets each
abbrev pub is_der_text : StringKind → List ℕ → Bool
is_der_text utf8 cs = true
is_der_text printable cs = true
is_der_text teletex cs = true
is_der_text ia5 cs = list_all is_ascii cs
is_der_text universal cs = are_universal (encode_utf8_all cs)
is_der_text bmp cs = are_bmp (encode_utf8_all cs)

abbrev pub is_der_leaf : Leaf → Bool
is_der_leaf (boolean b) = true
is_der_leaf (integer n) = true
is_der_leaf (bit_string n octets) = are_der_bits n octets
is_der_leaf (octet_string octets) = true
is_der_leaf null = true
is_der_leaf (object_identifier ns) = are_der_components ns
is_der_leaf (text kind cs) = is_der_text kind cs
is_der_leaf (utc_time m) = true
is_der_leaf (generalized_time m) = true

-- what stays as it came is DER: its tag, its form and its contents octets, which are encodings of DER if it is
-- constructed
abbrev pub IsDerAsItCame : ASN1Class → Bool → ℕ → List ℕ → Type 0
IsDerAsItCame class constructed tag contents =
    IsRightAlone class constructed tag contents
    × (constructed ≡ true → (items : List (List ℕ)) × AreDerEncodings contents items)

-- the canonical octets of each tree
abbrev pub each_canonical : {O : Type 0} → Trees O → List (List ℕ)
each_canonical no_trees = []
each_canonical (more_trees b bs) = canonical b ∷ each_canonical bs

abbrev mutual
  -- a faithful tree is written as DER
  pub IsDerTree : {O : Type 0} → Tree O → Type 0
  IsDerTree (leaf o l) = is_der_leaf l ≡ true
  IsDerTree (group o Sequence bs) = AreDerTrees bs
  -- the items of a SET are ordered by their tags or by their octets
  IsDerTree (group o Set bs) = AreDerTrees bs × IsInOrder (each_canonical bs)
  IsDerTree (explicit class o tag b) = IsDerTree b
  IsDerTree (unknown class constructed o tag contents) = IsDerAsItCame class constructed tag contents

  pub AreDerTrees : {O : Type 0} → Trees O → Type 0
  AreDerTrees no_trees = Unit {0}
  AreDerTrees (more_trees b bs) = IsDerTree b × AreDerTrees bs
