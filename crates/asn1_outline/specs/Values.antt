-- Which trees entries are of, for what is read of an entry alone.
use Rattle.std.specs.Prelude.{◌≡◌, ℕ, ◌<◌, false, List, get_or, length}
use Rattle.asn1_headers.specs.declared.header.ASN1Class.TheVariants.{Universal}
use Rattle.asn1_blocks.specs.Contents.{leaf_tag}
use Rattle.asn1_blocks.specs.Grammar.{IsDocument}
use Rattle.asn1_blocks.specs.Tree.{Leaf, Tree, Trees, leaf, unknown}
use Rattle.asn1_blocks.specs.View.{tree_offset}
use Rattle.asn1_outline.specs.Entries.{AreEntriesOf, HasHeaderAt, no_entry}
use Rattle.asn1_outline.specs.Structure.{Holds, IsEncodedIn, Nodes, node_count, nodes_trees, tree_at}
use Rattle.asn1_outline.specs.declared.entry.Entry.{Entry}

-- the entry is of octets of the document that encode the tree, and tells how many blocks the tree holds
pub record IsEntryOf (document : List ℕ) (b : Tree ℕ) (r : Entry) : Type 0 where
  pub octets : List ℕ
  pub encoded : IsEncodedIn document b octets
  pub offset_is : r.offset ≡ tree_offset b
  pub header : HasHeaderAt document r
  pub inside : Nodes
  pub holds : Holds document b (nodes_trees inside)
  pub items_are : r.items ≡ node_count inside

-- the entry is of octets of the document that encode some tree
abbrev pub IsOfSomeTree : List ℕ → Entry → Type 0
IsOfSomeTree document r = (b : Tree ℕ) × IsEntryOf document b r

-- the tree is no leaf with this tag number
abbrev pub IsNoLeafWith : ℕ → Tree ℕ → Type 0
IsNoLeafWith tag b = (o : ℕ) (l : Leaf) → b ≡ leaf o l → leaf_tag l ≡ tag → ⊥

-- the tree is of a primitive encoding of class Universal that stays as it came, with this tag number and these contents
-- octets
abbrev pub IsPrimitive : ℕ → List ℕ → Tree ℕ → Type 0
IsPrimitive tag contents b = b ≡ unknown Universal false (tree_offset b) tag contents

-- the tree is of no primitive encoding of class Universal that stays as it came
abbrev pub IsNoPrimitive : Tree ℕ → Type 0
IsNoPrimitive b = (tag : ℕ) (contents : List ℕ) → IsPrimitive tag contents b → ⊥

-- each entry of a document is of the tree that has its index in the document's structure
abbrev pub EachIsOfItsTree : Type 0
EachIsOfItsTree =
    (document : List ℕ) (bs : Trees ℕ) (rs : List Entry) → IsDocument document bs →
    (all : AreEntriesOf document bs rs) → (k : ℕ) → k < length rs →
    IsEntryOf document (tree_at all.nodes k) (get_or rs k no_entry)
