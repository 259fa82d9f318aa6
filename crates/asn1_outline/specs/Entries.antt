-- What an entry says of a block, and which entries are those of a document.
use Rattle.std.specs.Prelude.{◌≡◌, ℕ, suc, ◌+◌, ◌-◌, ◌<◌, ◌≤◌, ◌^◌, false, List, [], ◌∷◌, length}
use Rattle.asn1_headers.specs.Header.{Encoding}
use Rattle.asn1_headers.specs.declared.header.ASN1Class.TheVariants.{Universal}
use Rattle.asn1_blocks.specs.Grammar.{IsDocument}
use Rattle.asn1_blocks.specs.Places.{EncodingAt}
use Rattle.asn1_blocks.specs.Tree.{Trees}
use Rattle.asn1_blocks.specs.View.{tree_offset}
use Rattle.asn1_outline.specs.Structure.{AreNodes, Node, Nodes, node_count, node_in_order, node_items, node_tree, nodes_depths, nodes_in_order, nodes_trees}
use Rattle.asn1_outline.specs.declared.entry.Entry.{Entry}

-- the field is the tag number; from 2^64 on it is the greatest that the field can be
abbrev pub IsCapped : ℕ → ℕ → Type 0
IsCapped n field = (n < 2 ^ 64 → field ≡ n) × (2 ^ 64 ≤ n → field ≡ 2 ^ 64 - 1)

-- the octets are an encoding with the entry's header
pub record HasEntryHeader (octets : List ℕ) (r : Entry) : Type 0 where
  pub tag : ℕ
  pub contents : List ℕ
  pub encoding : Encoding octets r.class r.constructed tag contents r.header
  pub tag_field : IsCapped tag r.tag
  pub contents_field : r.contents ≡ length contents

-- at the entry's offset stands an encoding with its header
abbrev pub HasHeaderAt : List ℕ → Entry → Type 0
HasHeaderAt document r = (octets : List ℕ) × EncodingAt document r.offset octets × HasEntryHeader octets r

-- the entry is of the node, which has this index and stands inside so many blocks
pub record IsEntry (document : List ℕ) (n : Node) (index deep : ℕ) (r : Entry) : Type 0 where
  pub header : HasHeaderAt document r
  pub offset : r.offset ≡ tree_offset (node_tree n)
  pub items : r.items ≡ node_count (node_items n)
  -- the index after the node and all that it holds
  pub next : r.next ≡ index + length (node_in_order n)
  pub depth : r.depth ≡ deep

-- the entries are of the nodes, one each; the first has this index
abbrev pub AreEntries : List ℕ → ℕ → List Node → List ℕ → List Entry → Type 0
AreEntries document i [] [] [] = Unit {0}
AreEntries document i [] [] (r ∷ rs) = ⊥
AreEntries document i [] (d ∷ ds) rs = ⊥
AreEntries document i (n ∷ ns) [] rs = ⊥
AreEntries document i (n ∷ ns) (d ∷ ds) [] = ⊥
AreEntries document i (n ∷ ns) (d ∷ ds) (r ∷ rs) =
    IsEntry document n i d r × AreEntries document (suc i) ns ds rs

-- what is read of an index past the end
abbrev pub no_entry : Entry
no_entry = record {
  class = Universal;
  constructed = false;
  tag = 0;
  offset = 0;
  header = 0;
  contents = 0;
  items = 0;
  next = 0;
  depth = 0;
}

-- the entries are those of all blocks of a document with these trees, in order
pub record AreEntriesOf (document : List ℕ) (bs : Trees ℕ) (rs : List Entry) : Type 0 where
  pub nodes : Nodes
  pub trees : nodes_trees nodes ≡ bs
  pub structure : AreNodes document nodes
  pub entries : AreEntries document 0 (nodes_in_order nodes) (nodes_depths 0 nodes) rs

-- the octets are a document, and the entries are those of its blocks
abbrev pub IsOutline : List ℕ → List Entry → Type 0
IsOutline document rs = (bs : Trees ℕ) × IsDocument document bs × AreEntriesOf document bs rs
