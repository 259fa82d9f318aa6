-- How blocks are built out of entries. Private contracts alone name this.
use Rattle.std.specs.Prelude.{◌≡◌, ℕ, ◌++◌, ◌≤◌, List, [], ◌∷◌, drop, length, map, reverse}
use Rattle.asn1_blocks.specs.declared.block.ASN1Block.{ASN1Block}
use Rattle.asn1_blocks.specs.Tree.{Tree, Trees, more_trees, no_trees}
use Rattle.asn1_blocks.specs.View.{tree_offset, view}
use Rattle.asn1_outline.specs.Structure.{Holds, IsEncodedIn, Node, node_count, node_items, node_tree, nodes_trees}
use Rattle.asn1_outline.specs.declared.entry.Entry.{Entry}

-- the trees, as a list
abbrev pub tree_list : Trees ℕ → List (Tree ℕ)
tree_list no_trees = []
tree_list (more_trees b bs) = b ∷ tree_list bs

-- the trees of the blocks that a node has
abbrev pub items_of : Node → List (Tree ℕ)
items_of n = tree_list (nodes_trees (node_items n))

-- of nodes in order, each followed by those inside it, the trees of those that are inside no other
abbrev pub roots : List Node → List (Tree ℕ)
roots [] = []
roots (n ∷ ns) = node_tree n ∷ drop (node_count (node_items n)) (roots ns)

-- the trees of blocks that were built from the last to the first
abbrev pub built_trees : List ASN1Block → List (Tree ℕ)
built_trees built = reverse (map view built)

-- taken: as many blocks as the count, if there are so many, from the end of the old ones, in document order
pub record IsTaken (old : List ASN1Block) (count : ℕ) (taken new : List ASN1Block) : Type 0 where
  pub many : count ≤ length old → length taken ≡ count
  pub split : reverse old ≡ taken ++ reverse new

-- the node's tree stands at the offset
pub record IsNodeAt (document : List ℕ) (start : ℕ) (n : Node) : Type 0 where
  pub octets : List ℕ
  pub encoded : IsEncodedIn document (node_tree n) octets
  pub offset : start ≡ tree_offset (node_tree n)
  pub holds : Holds document (node_tree n) (nodes_trees (node_items n))

-- the entry is of the node, and the trees ahead begin with those of its items
pub record IsBuiltNext (document : List ℕ) (n : Node) (r : Entry) (ahead : List (Tree ℕ)) : Type 0 where
  pub node : IsNodeAt document r.offset n
  pub items : r.items ≡ node_count (node_items n)
  pub rest : List (Tree ℕ)
  pub ahead_is : ahead ≡ items_of n ++ rest
