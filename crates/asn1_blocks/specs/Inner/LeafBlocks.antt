-- A block that is a leaf, by its tag and its contents octets.
use Rattle.std.specs.Prelude.{◌≡◌, ◌⊎◌, ℕ, false, List, None}
use Rattle.asn1_blocks.specs.BlockParts.{tree_items}
use Rattle.asn1_blocks.specs.Grammar.{Encodes}
use Rattle.asn1_blocks.specs.Tree.{Leaf, Tree, leaf, group, explicit, unknown}
use Rattle.asn1_blocks.specs.Contents.{leaf_tag, is_leaf_tag, LeafContents}

-- the tree is a leaf at the offset, with this tag and these contents octets
abbrev pub IsLeafOf : ℕ → ℕ → List ℕ → Tree ℕ → Type 0
IsLeafOf offset tag contents (leaf o l) =
    (o ≡ offset) × (tag ≡ leaf_tag l) × LeafContents l contents
IsLeafOf offset tag contents (group o g bs) = ⊥
IsLeafOf offset tag contents (explicit c o n b) = ⊥
IsLeafOf offset tag contents (unknown c k o n v) = ⊥

-- the tag is that of no leaf, or the contents octets mean one
abbrev pub IsNoLeafOrMeant : ℕ → List ℕ → Type 0
IsNoLeafOrMeant tag contents =
    (is_leaf_tag tag ≡ false) ⊎ ((l : Leaf) × (tag ≡ leaf_tag l) × LeafContents l contents)

-- the octets at the offset encode a tree that holds no others
abbrev pub IsSingleAt : ℕ → List ℕ → Type 0
IsSingleAt offset octets = (t : Tree ℕ) × (tree_items t ≡ None) × Encodes offset octets t
