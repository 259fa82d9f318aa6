-- The structure of a document: its blocks at all depths. A constructed encoding of another class (X.690 8.14) holds the
-- blocks that its contents octets are, however many. Its tree has one of them, or stays as it came.
use Rattle.std.specs.Prelude.{◌≡◌, ◌≢◌, ℕ, suc, ◌+◌, ◌⊎◌, ◌++◌, Bool, true, false, List, [], ◌∷◌, drop, get_or}
use Rattle.asn1_headers.specs.declared.header.ASN1Class.{ASN1Class}
use Rattle.asn1_headers.specs.declared.header.ASN1Class.TheVariants.{Universal}
use Rattle.asn1_headers.specs.Header.{Encoding}
use Rattle.asn1_blocks.specs.Grammar.{AreBlocks, Encodes, EncodesAll, IsDocument}
use Rattle.asn1_blocks.specs.Tree.{Tree, Trees, explicit, group, leaf, more_trees, no_trees, null, unknown}
use Rattle.asn1_blocks.specs.View.{tree_offset}

mutual
  -- a block, and those that it holds
  pub data Node : Type 0 where
    node : Tree ℕ → Nodes → Node

  pub data Nodes : Type 0 where
    no_nodes : Nodes
    more_nodes : Node → Nodes → Nodes

abbrev pub node_tree : Node → Tree ℕ
node_tree (node b ns) = b

abbrev pub node_items : Node → Nodes
node_items (node b ns) = ns

abbrev pub nodes_trees : Nodes → Trees ℕ
nodes_trees no_nodes = no_trees
nodes_trees (more_nodes n ns) = more_trees (node_tree n) (nodes_trees ns)

abbrev pub nodes_of : List Node → Nodes
nodes_of [] = no_nodes
nodes_of (n ∷ ns) = more_nodes n (nodes_of ns)

abbrev pub node_count : Nodes → ℕ
node_count no_nodes = 0
node_count (more_nodes n ns) = suc (node_count ns)

-- at the offset in the document stands a constructed encoding of another class, whose contents octets begin at the
-- start
pub record IsTaggedAt (document : List ℕ) (class : ASN1Class) (offset tag : ℕ) (contents : List ℕ) (start : ℕ)
    : Type 0 where
  pub octets : List ℕ
  pub rest : List ℕ
  pub header : ℕ
  pub other : class ≢ Universal
  pub at_offset : drop offset document ≡ octets ++ rest
  pub encoding : Encoding octets class true tag contents header
  pub start_is : start ≡ offset + header

-- the blocks that a tree of the document holds: those in its contents octets, if these are blocks
abbrev pub Holds : List ℕ → Tree ℕ → Trees ℕ → Type 0
Holds document (leaf o l) bs = bs ≡ no_trees
Holds document (group o g items) bs = bs ≡ items
Holds document (explicit class o tag b) bs = bs ≡ more_trees b no_trees
Holds document (unknown class constructed o tag contents) bs =
    ((constructed ≡ true) × (start : ℕ) × IsTaggedAt document class o tag contents start
    × EncodesAll start contents bs)
    ⊎ ((bs ≡ no_trees) × ((class ≢ Universal) × (constructed ≡ true) × AreBlocks contents → ⊥))

abbrev mutual
  -- each node has the blocks that its tree holds
  pub IsNode : List ℕ → Node → Type 0
  IsNode document (node b ns) = Holds document b (nodes_trees ns) × AreNodes document ns

  pub AreNodes : List ℕ → Nodes → Type 0
  AreNodes document no_nodes = Unit {0}
  AreNodes document (more_nodes n ns) = IsNode document n × AreNodes document ns

-- the octets are a document with this structure
abbrev pub IsStructure : List ℕ → Nodes → Type 0
IsStructure document ns = IsDocument document (nodes_trees ns) × AreNodes document ns

abbrev mutual
  -- the node, and then those that it holds, each followed by its own
  pub node_in_order : Node → List Node
  node_in_order (node b ns) = node b ns ∷ nodes_in_order ns

  pub nodes_in_order : Nodes → List Node
  nodes_in_order no_nodes = []
  nodes_in_order (more_nodes n ns) = node_in_order n ++ nodes_in_order ns

abbrev mutual
  -- how many blocks each node stands in: a node, which stands in so many, and then those that it holds, in order
  pub node_depths : ℕ → Node → List ℕ
  node_depths depth (node b ns) = depth ∷ nodes_depths (suc depth) ns

  pub nodes_depths : ℕ → Nodes → List ℕ
  nodes_depths depth no_nodes = []
  nodes_depths depth (more_nodes n ns) = node_depths depth n ++ nodes_depths depth ns

-- what is read of an index past the end
abbrev pub no_tree : Tree ℕ
no_tree = leaf 0 null

abbrev pub no_node : Node
no_node = node no_tree no_nodes

-- the node at the index among all nodes in order, and its tree
abbrev pub node_at : Nodes → ℕ → Node
node_at ns index = get_or (nodes_in_order ns) index no_node

abbrev pub tree_at : Nodes → ℕ → Tree ℕ
tree_at ns index = node_tree (node_at ns index)

-- whether a tree is one block in explicit tagging
abbrev pub is_explicit : Tree ℕ → Bool
is_explicit (leaf o l) = false
is_explicit (group o g bs) = false
is_explicit (explicit class o tag b) = true
is_explicit (unknown class constructed o tag contents) = false

-- at the tree's offset in the document stand octets that encode it
pub record IsEncodedIn (document : List ℕ) (b : Tree ℕ) (octets : List ℕ) : Type 0 where
  pub rest : List ℕ
  pub at_offset : drop (tree_offset b) document ≡ octets ++ rest
  pub encoded : Encodes (tree_offset b) octets b

-- octets at the tree's offset encode it, and have these contents octets
pub record HasContents (document : List ℕ) (b : Tree ℕ) (contents : List ℕ) : Type 0 where
  pub octets : List ℕ
  pub encoded : IsEncodedIn document b octets
  pub class : ASN1Class
  pub constructed : Bool
  pub tag : ℕ
  pub header : ℕ
  pub encoding : Encoding octets class constructed tag contents header
