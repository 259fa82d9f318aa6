-- Which blocks stand inside a tree of a document: of one in implicit tagging, its contents octets alone say so.
use Rattle.std.specs.Prelude.{◌≡◌, ℕ}
use Rattle.asn1_blocks.specs.Tree.{Tree, Trees}
use Rattle.asn1_outline.specs.Structure.{Nodes, node_at, node_items, nodes_trees, tree_at}

-- the function returns the trees inside each tree of the structure
abbrev pub AreHeld : Nodes → (Tree ℕ → Trees ℕ) → Type 0
AreHeld ns held = (k : ℕ) → held (tree_at ns k) ≡ nodes_trees (node_items (node_at ns k))
