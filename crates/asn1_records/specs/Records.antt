-- What a record says of a block.
use Rattle.std.specs.Prelude.{◌≡◌, ℕ, ◌+◌, ◌<◌, Bool, List, get_or, length}
use Rattle.simple_asn1.specs.Header.{Encoding, class_number, constructed_bit}
use Rattle.simple_asn1.specs.Structure.{IsEncodedIn, IsStructure, Nodes, node_at, node_count, node_in_order, node_items, nodes_depths, nodes_in_order, tree_at}
use Rattle.simple_asn1.specs.Tree.{Tree}
use Rattle.simple_asn1.specs.View.{tree_offset}
use Rattle.asn1_headers.specs.declared.header.ASN1Class.{ASN1Class}
use Rattle.asn1_outline.specs.Entries.{IsCapped}
use Rattle.asn1_outline.specs.declared.entry.Entry.{Entry}
use Rattle.asn1_records.specs.declared.record.Block.{Block}

-- the octets are an encoding with the header of the record
pub record HasRecordHeader (octets : List ℕ) (r : Block) : Type 0 where
  pub class : ASN1Class
  pub constructed : Bool
  pub tag : ℕ
  pub contents : List ℕ
  pub encoding : Encoding octets class constructed tag contents r.header
  pub class_field : r.tag_class ≡ class_number class
  pub constructed_field : r.constructed ≡ constructed_bit constructed
  pub tag_field : IsCapped tag r.tag
  pub contents_field : r.contents ≡ length contents

-- what is read of a place past the end
abbrev pub no_record : Block
no_record = record {
  tag = 0;
  offset = 0;
  header = 0;
  contents = 0;
  items = 0;
  next = 0;
  depth = 0;
  tag_class = 0;
  constructed = 0;
}

-- the record says nothing of the records beside it
abbrev pub HasNoLinks : Block → Type 0
HasNoLinks r = (r.next ≡ 0) × (r.depth ≡ 0)

-- the record of an entry
abbrev pub block_of : Entry → Block
block_of e = record {
  tag = e.tag;
  offset = e.offset;
  header = e.header;
  contents = e.contents;
  items = e.items;
  next = e.next;
  depth = e.depth;
  tag_class = class_number e.class;
  constructed = constructed_bit e.constructed;
}

-- the record is that of the block at the index in a document's structure
pub record IsRecordAt (whole : List ℕ) (ns : Nodes) (k : ℕ) (r : Block) : Type 0 where
  pub octets : List ℕ
  pub encoded : IsEncodedIn whole (tree_at ns k) octets
  pub header : HasRecordHeader octets r
  pub offset : r.offset ≡ tree_offset (tree_at ns k)
  pub items : r.items ≡ node_count (node_items (node_at ns k))
  -- the index after the block and all that it holds
  pub next : r.next ≡ k + length (node_in_order (node_at ns k))
  pub depth : r.depth ≡ get_or (nodes_depths 0 ns) k 0

-- the record is that of a block in a document's structure, which is the tree; its links may be any
pub record IsRecord (whole : List ℕ) (b : Tree ℕ) (r : Block) : Type 0 where
  pub ns : Nodes
  pub structure : IsStructure whole ns
  pub place : ℕ
  pub within : place < length (nodes_in_order ns)
  pub tree : tree_at ns place ≡ b
  pub octets : List ℕ
  pub encoded : IsEncodedIn whole b octets
  pub header : HasRecordHeader octets r
  pub offset : r.offset ≡ tree_offset b
  pub items : r.items ≡ node_count (node_items (node_at ns place))

-- the records are those of the blocks of a document at all depths, one each, in order
abbrev pub AreRecords : List ℕ → Nodes → List Block → Type 0
AreRecords whole ns records =
    (length records ≡ length (nodes_in_order ns))
    × ((k : ℕ) → k < length records → IsRecordAt whole ns k (get_or records k no_record))
