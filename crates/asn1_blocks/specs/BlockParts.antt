-- What is taken out of a tree: its tag number, what it holds, its value, and its blocks in order.
use Rattle.std.specs.Prelude.{ℕ, ℤ, Bool, List, [], ◌∷◌, ◌++◌, Option, Some, None, option_and_then}
use Rattle.asn1_blocks.specs.Contents.{leaf_tag, group_tag}
use Rattle.asn1_leaves.specs.Contents.Moment.{Moment}
use Rattle.asn1_blocks.specs.Tree.{Leaf, Tree, Trees, bit_string, boolean, explicit, generalized_time, group, integer, leaf, more_trees, no_trees, object_identifier, octet_string, text, unknown, utc_time}

-- the tag number: that of its kind, or its own
abbrev pub tree_tag : {O : Type 0} → Tree O → ℕ
tree_tag (leaf o l) = leaf_tag l
tree_tag (group o g bs) = group_tag g
tree_tag (explicit class o tag b) = tag
tree_tag (unknown class constructed o tag contents) = tag

-- the trees that a SEQUENCE, SET or explicit tagging holds
abbrev pub tree_items : {O : Type 0} → Tree O → Option (Trees O)
tree_items (leaf o l) = None
tree_items (group o g bs) = Some bs
tree_items (explicit class o tag b) = Some (more_trees b no_trees)
tree_items (unknown class constructed o tag contents) = None

-- the leaf that a tree is
abbrev pub tree_leaf : {O : Type 0} → Tree O → Option Leaf
tree_leaf (leaf o l) = Some l
tree_leaf (group o g bs) = None
tree_leaf (explicit class o tag b) = None
tree_leaf (unknown class constructed o tag contents) = None

abbrev pub leaf_text : Leaf → Option (List ℕ)
leaf_text (text kind characters) = Some characters
leaf_text l = None

-- the characters of a string, of whatever kind
abbrev pub tree_text : {O : Type 0} → Tree O → Option (List ℕ)
tree_text b = option_and_then leaf_text (tree_leaf b)

abbrev pub leaf_integer : Leaf → Option ℤ
leaf_integer (integer number) = Some number
leaf_integer l = None

-- the number of an INTEGER
abbrev pub tree_integer : {O : Type 0} → Tree O → Option ℤ
tree_integer b = option_and_then leaf_integer (tree_leaf b)

abbrev pub leaf_octets : Leaf → Option (List ℕ)
leaf_octets (octet_string octets) = Some octets
leaf_octets l = None

-- the octets of an OCTET STRING
abbrev pub tree_octets : {O : Type 0} → Tree O → Option (List ℕ)
tree_octets b = option_and_then leaf_octets (tree_leaf b)

abbrev pub leaf_boolean : Leaf → Option Bool
leaf_boolean (boolean value) = Some value
leaf_boolean _ = None

-- the value of a BOOLEAN
abbrev pub tree_boolean : {O : Type 0} → Tree O → Option Bool
tree_boolean b = option_and_then leaf_boolean (tree_leaf b)

abbrev pub leaf_bits : Leaf → Option (ℕ × List ℕ)
leaf_bits (bit_string count octets) = Some (count, octets)
leaf_bits _ = None

-- the number of bits of a BIT STRING, and the octets that hold them
abbrev pub tree_bits : {O : Type 0} → Tree O → Option (ℕ × List ℕ)
tree_bits b = option_and_then leaf_bits (tree_leaf b)

abbrev pub leaf_oid : Leaf → Option (List ℕ)
leaf_oid (object_identifier components) = Some components
leaf_oid _ = None

-- the components of an OBJECT IDENTIFIER
abbrev pub tree_oid : {O : Type 0} → Tree O → Option (List ℕ)
tree_oid b = option_and_then leaf_oid (tree_leaf b)

abbrev pub leaf_moment : Leaf → Option Moment
leaf_moment (utc_time moment) = Some moment
leaf_moment (generalized_time moment) = Some moment
leaf_moment _ = None

-- the moment of a UTCTime or GeneralizedTime
abbrev pub tree_moment : {O : Type 0} → Tree O → Option Moment
tree_moment b = option_and_then leaf_moment (tree_leaf b)

abbrev mutual
  -- the tree, and then those that it holds, each followed by its own
  pub in_order : {O : Type 0} → Tree O → List (Tree O)
  in_order (leaf o l) = leaf o l ∷ []
  in_order (group o g bs) = group o g bs ∷ all_in_order bs
  in_order (explicit class o tag b) = explicit class o tag b ∷ in_order b
  in_order (unknown class constructed o tag contents) = unknown class constructed o tag contents ∷ []

  -- the trees of a list, one after another, each followed by those that it holds
  pub all_in_order : {O : Type 0} → Trees O → List (Tree O)
  all_in_order no_trees = []
  all_in_order (more_trees b bs) = in_order b ++ all_in_order bs
