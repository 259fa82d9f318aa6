-- The parts of a signed triple that were found by headers are those that its entries have, for `signed`.
use Rattle.std.proofs.Common.{◌≡◌, ℕ, suc, ◌+◌, ◌<◌, ◌≤◌, ◌^◌, ◌++◌, Bool, List, [], ◌∷◌, drop, length, inl, inr, refl, sym, ap, subst, ◌∙◌, arith, length-append}
use Rattle.std.proofs.lemmas.Bool.{cases_lt}
use Rattle.std.proofs.lemmas.List.{length-drop}
use Rattle.asn1_headers.specs.Header.{Encoding, class_number, constructed_bit}
use Rattle.asn1_headers.specs.declared.header.ASN1Class.{ASN1Class}
use Rattle.asn1_headers.specs.declared.header.ASN1Class.TheVariants.{Universal}
use Rattle.asn1_headers.specs.declared.tags.TheConstants.{BIT_STRING, OBJECT_IDENTIFIER, SEQUENCE}
use Rattle.asn1_headers.proofs.Prefixes.{Encoding-unique}
use Rattle.asn1_blocks.specs.declared.block.GroupKind.TheVariants.{Sequence}
use Rattle.asn1_blocks.proofs.OneReading.{IsBlock-encodes, IsBlock-not_empty}
use Rattle.asn1_blocks.proofs.Slices.{EncodingAt-unique, tree_offset-encodes}
use Rattle.asn1_outline.specs.Entries.{AreEntries, HasHeaderAt, IsCapped, IsEntry, IsOutline}
use Rattle.asn1_outline.specs.Triple.{BeginWithTriple, IsUniversal, entry_at}
use Rattle.asn1_outline.specs.declared.entry.Entry.{Entry}
use Rattle.asn1_outline.proofs.Entries.{IsEntry-get_or, length-entries}
use Rattle.asn1_outline.proofs.Standing.{EncodingAt-encoded, drop-contents, drop-first, drop-rest, length-contents_two_less}
use Rattle.simple_asn1.specs.Grammar.{Encodes, EncodesAll, IsDocument}
use Rattle.simple_asn1.specs.Places.{EncodingAt}
use Rattle.simple_asn1.specs.SignedTrees.{IsOfAnotherShape, signature_tree}
use Rattle.simple_asn1.specs.Structure.{Holds, IsEncodedIn, IsNode, IsStructure, Node, Nodes, more_nodes, no_nodes, node, node_count, node_items, node_tree, nodes_depths, nodes_in_order, nodes_trees}
use Rattle.simple_asn1.specs.Tree.{Leaf, Tree, Trees, bit_string, group, leaf, more_trees, no_trees, object_identifier}
use Rattle.simple_asn1.specs.View.{tree_offset}
use Rattle.asn1_records.specs.Answers.{AreRecordsOfParts, identifier_tree}
use Rattle.asn1_records.specs.Contents.{IsHeaderAt}
use Rattle.asn1_records.specs.Inner.TripleRecords.{ArePartsBehind, IsOfEncoding, IsUniversalRecordAt, record_end, record_start}
use Rattle.asn1_records.specs.Records.{HasRecordHeader, IsRecord, block_of}
use Rattle.asn1_records.specs.Status.{done}
use Rattle.asn1_records.specs.declared.record.Block.{Block}
use Rattle.asn1_records.specs.declared.record.SignedAnswer.{SignedAnswer}
use Rattle.asn1_records.proofs.Headers.{class_number-universal}
use Rattle.asn1_records.proofs.Triples.{BeginWithTriple-trees, HasSignedTriple-entries, HasUniversalTag-entry, HasUniversalTag-leaf, HasUniversalTag-sequence, Holds-sequence, IsNodeAndEntry-drop, node-algorithm, node-content, node-identifier, node-signature, node-whole, single_record}

-- an encoding is its header and its contents octets
length-encoding : (y : List ℕ) (c : ASN1Class) (k : Bool) (n : ℕ) (v : List ℕ) (h : ℕ) → Encoding y c k n v h →
    length y ≡ h + length v
length-encoding y c k n v h e =
    omega (
      arith,
      e.size,
      ap length e.whole,
      length-append e.identifier (e.len ++ v),
      length-append e.len v,
    )

-- the encoding that a record is of lies in the octets
pub IsOfEncoding-within : (x : List ℕ) (r : Block) → IsOfEncoding x r → record_end r ≤ length x
IsOfEncoding-within x r (y, at, h) =
    let size = length-encoding y h.class h.constructed h.tag h.contents r.header h.encoding in
    let some = length-contents_two_less y h.class h.constructed h.tag h.contents r.header h.encoding in
    omega (
      arith,
      size,
      some,
      h.contents_field,
      ap length at.at_offset,
      length-append y at.rest,
      length-drop r.offset x,
    )

-- a record by a header is of an encoding
pub IsOfEncoding-at : (x : List ℕ) (o : ℕ) (r : Block) → IsHeaderAt x o r → IsOfEncoding x r
IsOfEncoding-at x o r (y, at, h, offset, _, _) = (y, subst (λ z. EncodingAt x z y) (sym offset) at, h)

-- one tag number has one field
IsCapped-unique : (n m f g : ℕ) → n ≡ m → IsCapped n f → IsCapped m g → f ≡ g
IsCapped-unique n m f g same (low, high) (low', high') = elim (cases_lt n (2 ^ 64)) [
  | inl lt ↦ low lt ∙ same ∙ sym (low' (omega (arith, same, lt)))
  | inr ge ↦ high ge ∙ sym (high' (omega (arith, same, ge)))
]

-- a record with these fields, which says nothing of items and links
abbrev header_block : ℕ → ℕ → ℕ → ℕ → ℕ → ℕ → Block
header_block tag offset header contents class constructed = record {
  tag = tag;
  offset = offset;
  header = header;
  contents = contents;
  items = 0;
  next = 0;
  depth = 0;
  tag_class = class;
  constructed = constructed;
}

-- a record of a header has these fields alone
header_block-record : (r : Block) → r.items ≡ 0 → r.next ≡ 0 → r.depth ≡ 0
    → r ≡ header_block r.tag r.offset r.header r.contents r.tag_class r.constructed
header_block-record r items next depth =
    ap (λ z. record r { items = z }) items
    ∙ ap (λ z. record r { items = 0; next = z }) next
    ∙ ap (λ z. record r { items = 0; next = 0; depth = z }) depth

-- the record of an encoding by its header is one
pub IsHeaderAt-unique : (x : List ℕ) (o : ℕ) (r s : Block) → IsHeaderAt x o r → IsHeaderAt x o s → r ≡ s
IsHeaderAt-unique x o r s (y, at, h, offset, items, (next, depth)) (z, at', h', offset', items', (next', depth')) =
    let same : y ≡ z = EncodingAt-unique x o y z at at' in
    let u = Encoding-unique y z h.class h'.class h.constructed h'.constructed h.tag h'.tag h.contents h'.contents
    r.header s.header [] [] h.encoding h'.encoding (ap (λ w. w ++ []) same) in
    let tag = IsCapped-unique h.tag h'.tag r.tag s.tag u.tag h.tag_field h'.tag_field in
    let offsets : r.offset ≡ s.offset = offset ∙ sym offset' in
    let header : r.header ≡ s.header = u.header in
    let contents : r.contents ≡ s.contents = h.contents_field ∙ ap length u.contents ∙ sym h'.contents_field in
    let class : r.tag_class ≡ s.tag_class = h.class_field ∙ ap class_number u.class ∙ sym h'.class_field in
    let bit : r.constructed ≡ s.constructed =
    h.constructed_field ∙ ap constructed_bit u.constructed ∙ sym h'.constructed_field in
    header_block-record r items next depth
    ∙ ap (λ w. header_block w r.offset r.header r.contents r.tag_class r.constructed) tag
    ∙ ap (λ w. header_block s.tag w r.header r.contents r.tag_class r.constructed) offsets
    ∙ ap (λ w. header_block s.tag s.offset w r.contents r.tag_class r.constructed) header
    ∙ ap (λ w. header_block s.tag s.offset s.header w r.tag_class r.constructed) contents
    ∙ ap (λ w. header_block s.tag s.offset s.header s.contents w r.constructed) class
    ∙ ap (λ w. header_block s.tag s.offset s.header s.contents s.tag_class w) bit
    ∙ sym (header_block-record s items' next' depth')

-- the record of an entry by its header alone
abbrev pub header_of : Entry → Block
header_of e = record (block_of e) { items = 0; next = 0; depth = 0 }

-- what stands at an entry has a record of its header
pub IsHeaderAt-entry : (x : List ℕ) (e : Entry) (o : ℕ) → HasHeaderAt x e → e.offset ≡ o →
    IsHeaderAt x o (header_of e)
IsHeaderAt-entry x e o (y, at, h) is =
    let own : HasRecordHeader y (header_of e) = record {
      class = e.class;
      constructed = e.constructed;
      tag = h.tag;
      contents = h.contents;
      encoding = h.encoding;
      class_field = refl;
      constructed_field = refl;
      tag_field = h.tag_field;
      contents_field = h.contents_field;
    } in
    (y, subst (λ z. EncodingAt x z y) is at, own, is, refl, (refl, refl))

-- the record of an entry by itself is of an encoding
pub IsOfEncoding-entry : (x : List ℕ) (e : Entry) → HasHeaderAt x e →
    IsOfEncoding x (record (block_of e) { next = 0; depth = 0 })
IsOfEncoding-entry x e (y, at, h) = (
  y,
  at,
  record {
    class = e.class;
    constructed = e.constructed;
    tag = h.tag;
    contents = h.contents;
    encoding = h.encoding;
    class_field = refl;
    constructed_field = refl;
    tag_field = h.tag_field;
    contents_field = h.contents_field;
  },
)

-- two universal records at one place are the same
pub IsUniversalRecordAt-unique : (x : List ℕ) (o tag : ℕ) (r s : Block) → IsUniversalRecordAt x o tag r →
    IsUniversalRecordAt x o tag s
    → r ≡ s
IsUniversalRecordAt-unique x o tag r s at at' = IsHeaderAt-unique x o r s at.0 at'.0

-- a universal entry has a universal record
IsUniversalRecordAt-entry : (x : List ℕ) (e : Entry) (o tag : ℕ) → HasHeaderAt x e → e.offset ≡ o →
    IsUniversal tag e
    → IsUniversalRecordAt x o tag (header_of e)
IsUniversalRecordAt-entry x e o tag at is (class, number) =
    (IsHeaderAt-entry x e o at is, ap class_number class, number)

-- an entry at the place of a universal record has it
record IsRecordOfEntry (e : Entry) (tag : ℕ) (r : Block) : Type 0 where
  same : header_of e ≡ r
  universal : IsUniversal tag e

IsRecordOfEntry-found : (x : List ℕ) (e : Entry) (o tag : ℕ) (r : Block) → HasHeaderAt x e → e.offset ≡ o →
    IsUniversalRecordAt x o tag r
    → IsRecordOfEntry e tag r
IsRecordOfEntry-found x e o tag r at is (found, class, number) =
    let same : header_of e ≡ r = IsHeaderAt-unique x o (header_of e) r (IsHeaderAt-entry x e o at is) found in
    record {
      same = same;
      universal = (
        class_number-universal e.class (ap (λ (z : Block). z.tag_class) same ∙ class),
        ap (λ (z : Block). z.tag) same ∙ number,
      );
    }

-- of trees one after another, the second begins where the entry of the first says that it ends
tree_offset-second : (x : List ℕ) (o : ℕ) (v rest : List ℕ) (a b : Tree ℕ) (bs : Trees ℕ) (e : Entry) →
    drop o x ≡ v ++ rest → EncodesAll o v (more_trees a (more_trees b bs)) → HasHeaderAt x e → e.offset ≡ tree_offset a
    → tree_offset b ≡ e.offset + e.header + e.contents
tree_offset-second x o v rest a b bs e at f (y, there, h) is =
    let first = tree_offset-encodes o f.first a f.item in
    let second = tree_offset-encodes (o + length f.first) f.items.first b f.items.item in
    let whole = drop-first x o v f.first f.rest rest at f.whole in
    let own : IsEncodedIn x a f.first = record {
      rest = f.rest ++ rest;
      at_offset = subst (λ z. drop z x ≡ f.first ++ (f.rest ++ rest)) (sym first) whole;
      encoded = subst (λ z. Encodes z f.first a) (sym first) f.item;
    } in
    let same : y ≡ f.first =
    EncodingAt-unique x (tree_offset a) y f.first (subst (λ z. EncodingAt x z y) is there)
    (EncodingAt-encoded x a f.first own) in
    let size = length-encoding y e.class e.constructed h.tag h.contents e.header h.encoding in
    omega (arith, first, second, is, ap length same, size, h.contents_field)

-- the contents octets of the SEQUENCE of an entry, which encode the trees inside it
record SequenceInside (x : List ℕ) (e : Entry) (bs : Trees ℕ) : Type 0 where
  contents : List ℕ
  rest : List ℕ
  at : drop (e.offset + e.header) x ≡ contents ++ rest
  encoded : EncodesAll (e.offset + e.header) contents bs
  size : e.contents ≡ length contents

-- the trees inside a SEQUENCE are encoded behind the header that its entry has
SequenceInside-entry : (x : List ℕ) (n : Node) (i d : ℕ) (e : Entry) (y : List ℕ) (bs : Trees ℕ) → IsEntry x n i d e →
    IsEncodedIn x (node_tree n) y → node_tree n ≡ group (tree_offset (node_tree n)) Sequence bs
    → SequenceInside x e bs
SequenceInside-entry x n i d e y bs is s group_is =
    let b = node_tree n in
    let (_, bit, contents, header, f, inside) = subst (λ z. Encodes (tree_offset b) y z) group_is s.encoded in
    let (octets, at, h) = is.header in
    let same : octets ≡ y =
    EncodingAt-unique x (tree_offset b) octets y (subst (λ o. EncodingAt x o octets) is.offset at)
    (EncodingAt-encoded x b y s) in
    let u = Encoding-unique octets y e.class Universal e.constructed bit h.tag SEQUENCE h.contents contents e.header
    header [] [] h.encoding f (ap (λ w. w ++ []) same) in
    let place : tree_offset b + header ≡ e.offset + e.header = omega (arith, is.offset, u.header) in
    record {
      contents = contents;
      rest = s.rest;
      at = subst (λ z. drop z x ≡ contents ++ s.rest) place
          (drop-contents x y s.rest Universal bit SEQUENCE contents (tree_offset b) header s.at_offset f);
      encoded = subst (λ z. EncodesAll z contents bs) place inside;
      size = h.contents_field ∙ ap length u.contents;
    }

-- a leaf has no items
items-none_of_leaf : (x : List ℕ) (n : Node) (o : ℕ) (l : Leaf) → IsNode x n → node_tree n ≡ leaf o l →
    node_count (node_items n) ≡ 0
items-none_of_leaf x (node b no_nodes) o l is e = refl
items-none_of_leaf x (node b (more_nodes m ms)) o l is e =
    let none : more_trees (node_tree m) (nodes_trees ms) ≡ no_trees =
    subst (λ z. Holds x z (more_trees (node_tree m) (nodes_trees ms))) e is.0 in
    absurd (cc)

-- the record of an entry without items is that of its header
single_record-header_of : (e : Entry) → e.items ≡ 0 → single_record e ≡ header_of e
single_record-header_of e none = ap (λ z. record (block_of e) { items = z; next = 0; depth = 0 }) none

-- entries begin with a triple whose identifier and signature have these records
pub record BeginWithParts (es : List Entry) (identifier signature : Block) : Type 0 where
  pub begin : BeginWithTriple es
  pub is_identifier : single_record (entry_at es ((entry_at es 1).next + 1)) ≡ identifier
  pub is_signature : single_record (entry_at es (entry_at es (entry_at es 1).next).next) ≡ signature

-- where what was signed ends, by its entry
abbrev pub content_end : List Entry → ℕ
content_end es = record_end (single_record (entry_at es 1))

-- the parts stand behind what was signed
abbrev HasPartsBehind : List ℕ → List Entry → Type 0
HasPartsBehind x es =
    (a : Block) × (i : Block) × (s : Block) × ArePartsBehind x (content_end es) a i s

-- a document whose first block is a SEQUENCE that holds three
module _ (x : List ℕ) (es : List Entry) (t ab : Tree ℕ) (c s : Node) (inner rest : Nodes)
    (d : IsStructure x (more_nodes (node t (more_nodes c (more_nodes (node ab inner) (more_nodes s no_nodes)))) rest))
    (are : AreEntries x 0
    (nodes_in_order (more_nodes (node t (more_nodes c (more_nodes (node ab inner) (more_nodes s no_nodes)))) rest))
    (nodes_depths 0
    (more_nodes (node t (more_nodes c (more_nodes (node ab inner) (more_nodes s no_nodes)))) rest)) es)
    (first : IsUniversal SEQUENCE (entry_at es 0)) where
  abbrev second_entry : Entry
  second_entry = entry_at es (entry_at es 1).next

  abbrev third_entry : Entry
  third_entry = entry_at es second_entry.next

  -- the trees inside the first block
  abbrev three : Trees ℕ
  three = more_trees (node_tree c) (more_trees ab (more_trees (node_tree s) no_trees))

  -- the contents octets of the first block encode what was signed, the algorithm and the signature
  SequenceInside-whole : SequenceInside x (entry_at es 0) three
  SequenceInside-whole =
      let w = node-whole x es t ab c s inner rest d are in
      let n = node t (more_nodes c (more_nodes (node ab inner) (more_nodes s no_nodes))) in
      let (bs, group_is) = HasUniversalTag-sequence x t
      (HasUniversalTag-entry x n 0 w.depth SEQUENCE (entry_at es 0) w.octets w.entry w.encoded (omega arith) first) in
      let held : three ≡ bs = Holds-sequence x t (tree_offset t) bs three group_is w.holds.0 in
      SequenceInside-entry x n 0 w.depth (entry_at es 0) w.octets three w.entry w.encoded
      (group_is ∙ ap (group (tree_offset t) Sequence) (sym held))

  -- the algorithm begins where what was signed ends
  offset-second : second_entry.offset ≡ content_end es
  offset-second =
      let n = SequenceInside-whole in
      let f = node-content x es t ab c s inner rest d are in
      let g = node-algorithm x es t ab c s inner rest d are in
      g.entry.offset ∙ tree_offset-second x ((entry_at es 0).offset + (entry_at es 0).header) n.contents n.rest
      (node_tree c) ab (more_trees (node_tree s) no_trees) (entry_at es 1) n.at n.encoded f.entry.header f.entry.offset

  -- the signature begins where the algorithm ends
  offset-third : third_entry.offset ≡ second_entry.offset + second_entry.header + second_entry.contents
  offset-third =
      let n = SequenceInside-whole in
      let o = (entry_at es 0).offset + (entry_at es 0).header in
      let f = n.encoded in
      let g = node-algorithm x es t ab c s inner rest d are in
      let h = node-signature x es t ab c s inner rest d are in
      h.entry.offset ∙ tree_offset-second x (o + length f.first) f.rest n.rest ab (node_tree s) no_trees second_entry
      (drop-rest x o n.contents f.first f.rest n.rest n.at f.whole) f.items g.entry.header g.entry.offset

  -- the contents octets of the algorithm encode what it holds
  SequenceInside-algorithm : IsUniversal SEQUENCE second_entry → SequenceInside x second_entry (nodes_trees inner)
  SequenceInside-algorithm second =
      let g = node-algorithm x es t ab c s inner rest d are in
      let n = node ab inner in
      let (bs, group_is) = HasUniversalTag-sequence x ab
      (HasUniversalTag-entry x n (entry_at es 1).next g.depth SEQUENCE second_entry g.octets g.entry g.encoded
      (omega arith) second) in
      let held : nodes_trees inner ≡ bs =
      Holds-sequence x ab (tree_offset ab) bs (nodes_trees inner) group_is g.holds.0 in
      SequenceInside-entry x n (entry_at es 1).next g.depth second_entry g.octets (nodes_trees inner) g.entry g.encoded
      (group_is ∙ ap (group (tree_offset ab) Sequence) (sym held))

  -- the entry of the algorithm has the record that was found
  IsRecordOfEntry-algorithm : (a i r : Block) → ArePartsBehind x (content_end es) a i r →
      IsRecordOfEntry second_entry SEQUENCE a
  IsRecordOfEntry-algorithm a i r p =
      let g = node-algorithm x es t ab c s inner rest d are in
      IsRecordOfEntry-found x second_entry (content_end es) SEQUENCE a g.entry.header offset-second p.is_algorithm

  -- the entry of the signature has the record that was found
  IsRecordOfEntry-signature : (a i r : Block) → ArePartsBehind x (content_end es) a i r →
      IsRecordOfEntry third_entry BIT_STRING r
  IsRecordOfEntry-signature a i r p =
      let g = IsRecordOfEntry-algorithm a i r p in
      let h = node-signature x es t ab c s inner rest d are in
      IsRecordOfEntry-found x third_entry (record_end a) BIT_STRING r h.entry.header
      (offset-third ∙ ap record_end g.same) p.is_signature

  -- the signature has no items
  items-signature : IsUniversal BIT_STRING third_entry → third_entry.items ≡ 0
  items-signature third =
      let h = node-signature x es t ab c s inner rest d are in
      let (l, _, leaf_is) = HasUniversalTag-leaf x (node_tree s) (bit_string 0 [])
      (HasUniversalTag-entry x s second_entry.next h.depth BIT_STRING third_entry h.octets h.entry h.encoded
      (omega arith) third) in
      h.entry.items ∙ items-none_of_leaf x s (tree_offset (node_tree s)) l h.holds leaf_is

-- where the algorithm holds nothing, the parts of a triple are not found
ArePartsBehind-nothing_inside : (x : List ℕ) (es : List Entry) (t ab : Tree ℕ) (c s : Node) (rest : Nodes) →
    (d : IsStructure x
    (more_nodes (node t (more_nodes c (more_nodes (node ab no_nodes) (more_nodes s no_nodes)))) rest)) →
    AreEntries x 0
    (nodes_in_order
    (more_nodes (node t (more_nodes c (more_nodes (node ab no_nodes) (more_nodes s no_nodes)))) rest))
    (nodes_depths 0
    (more_nodes (node t (more_nodes c (more_nodes (node ab no_nodes) (more_nodes s no_nodes)))) rest)) es →
    IsUniversal SEQUENCE (entry_at es 0) → (a i r : Block) → ArePartsBehind x (content_end es) a i r → ⊥
ArePartsBehind-nothing_inside x es t ab c s rest d are first a i r p =
    let g = IsRecordOfEntry-algorithm x es t ab c s no_nodes rest d are first a i r p in
    let n = SequenceInside-algorithm x es t ab c s no_nodes rest d are first g.universal in
    let none : n.contents ≡ [] = n.encoded in
    omega (arith, p.some, ap (λ (z : Block). z.contents) g.same, n.size, ap length none)

-- a document whose first block is a SEQUENCE that holds three, the second of which holds some
module _ (x : List ℕ) (es : List Entry) (t ab : Tree ℕ) (c i s : Node) (is rest : Nodes)
    (d : IsStructure x
    (more_nodes (node t (more_nodes c (more_nodes (node ab (more_nodes i is)) (more_nodes s no_nodes)))) rest))
    (are : AreEntries x 0
    (nodes_in_order
    (more_nodes (node t (more_nodes c (more_nodes (node ab (more_nodes i is)) (more_nodes s no_nodes)))) rest))
    (nodes_depths 0
    (more_nodes (node t (more_nodes c (more_nodes (node ab (more_nodes i is)) (more_nodes s no_nodes)))) rest)) es)
    (first : IsUniversal SEQUENCE (entry_at es 0)) where
  abbrev algorithm_entry : Entry
  algorithm_entry = entry_at es (entry_at es 1).next

  abbrev identifier_entry : Entry
  identifier_entry = entry_at es ((entry_at es 1).next + 1)

  abbrev signature_entry : Entry
  signature_entry = entry_at es algorithm_entry.next

  -- the identifier begins with the contents octets of the algorithm, of which there are some
  offset-identifier : IsUniversal SEQUENCE algorithm_entry →
      (identifier_entry.offset ≡ algorithm_entry.offset + algorithm_entry.header) × (0 < algorithm_entry.contents)
  offset-identifier second =
      let n = SequenceInside-algorithm x es t ab c s (more_nodes i is) rest d are first second in
      let f = n.encoded in
      let o = algorithm_entry.offset + algorithm_entry.header in
      let g = node-identifier x es t ab c i s is rest d are in
      let some = IsBlock-not_empty f.first (IsBlock-encodes o f.first (node_tree i) f.item) in (
        g.entry.offset ∙ tree_offset-encodes o f.first (node_tree i) f.item,
        omega (arith, n.size, some, ap length f.whole, length-append f.first f.rest),
      )

  -- the identifier has no items
  items-identifier : IsUniversal OBJECT_IDENTIFIER identifier_entry → identifier_entry.items ≡ 0
  items-identifier named =
      let g = node-identifier x es t ab c i s is rest d are in
      let (l, _, leaf_is) = HasUniversalTag-leaf x (node_tree i) (object_identifier [])
      (HasUniversalTag-entry x i ((entry_at es 1).next + 1) g.depth OBJECT_IDENTIFIER identifier_entry g.octets g.entry
      g.encoded (omega arith) named) in
      g.entry.items ∙ items-none_of_leaf x i (tree_offset (node_tree i)) l g.holds leaf_is

  -- entries begin with the triple whose parts were found
  BeginWithParts-found : (entry_at es 0).items ≡ 3 → (a b r : Block) → ArePartsBehind x (content_end es) a b r →
      BeginWithParts es b r
  BeginWithParts-found three_items a b r p =
      let g = IsRecordOfEntry-algorithm x es t ab c s (more_nodes i is) rest d are first a b r p in
      let h = IsRecordOfEntry-signature x es t ab c s (more_nodes i is) rest d are first a b r p in
      let m = node-identifier x es t ab c i s is rest d are in
      let there : identifier_entry.offset ≡ record_start a =
      (offset-identifier g.universal).0 ∙ ap record_start g.same in
      let f = IsRecordOfEntry-found x identifier_entry (record_start a) OBJECT_IDENTIFIER b m.entry.header there
      p.is_identifier in
      let more : algorithm_entry.items ≡ suc (node_count is) =
      (node-algorithm x es t ab c s (more_nodes i is) rest d are).entry.items in
      record {
        begin = record {
          whole = first;
          three = three_items;
          algorithm = g.universal;
          some = omega (arith, more);
          identifier = f.universal;
          signature = h.universal;
        };
        is_identifier = single_record-header_of identifier_entry (items-identifier f.universal) ∙ f.same;
        is_signature =
            single_record-header_of signature_entry
            (items-signature x es t ab c s (more_nodes i is) rest d are first h.universal) ∙ h.same;
      }

  -- the parts of a triple that entries begin with are found
  ArePartsBehind-begin : BeginWithTriple es → HasPartsBehind x es
  ArePartsBehind-begin begin =
      let g = node-algorithm x es t ab c s (more_nodes i is) rest d are in
      let m = node-identifier x es t ab c i s is rest d are in
      let h = node-signature x es t ab c s (more_nodes i is) rest d are in
      let (there, some) = offset-identifier begin.algorithm in (
        header_of algorithm_entry,
        header_of identifier_entry,
        header_of signature_entry,
        record {
          is_algorithm = IsUniversalRecordAt-entry x algorithm_entry (content_end es) SEQUENCE g.entry.header
              (offset-second x es t ab c s (more_nodes i is) rest d are first) begin.algorithm;
          some = some;
          is_identifier = IsUniversalRecordAt-entry x identifier_entry (record_start (header_of algorithm_entry))
              OBJECT_IDENTIFIER m.entry.header there begin.identifier;
          is_signature = IsUniversalRecordAt-entry x signature_entry (record_end (header_of algorithm_entry)) BIT_STRING
              h.entry.header (offset-third x es t ab c s (more_nodes i is) rest d are first) begin.signature;
        },
      )

-- all entries of a document, by what its first block holds
module _ (x : List ℕ) (es : List Entry) where
  BeginWithParts-items : (t : Tree ℕ) (ms rest : Nodes) → IsStructure x (more_nodes (node t ms) rest)
      → AreEntries x 0 (nodes_in_order (more_nodes (node t ms) rest)) (nodes_depths 0 (more_nodes (node t ms) rest)) es
      → IsUniversal SEQUENCE (entry_at es 0) → (entry_at es 0).items ≡ 3 → node_count ms ≡ 3
      → ((a b r : Block) → ArePartsBehind x (content_end es) a b r → BeginWithParts es b r)
      × (BeginWithTriple es → HasPartsBehind x es)
  BeginWithParts-items t no_nodes rest d are first items three = absurd (omega (arith, three))
  BeginWithParts-items t (more_nodes c no_nodes) rest d are first items three = absurd (omega (arith, three))
  BeginWithParts-items t (more_nodes c (more_nodes n no_nodes)) rest d are first items three =
      absurd (omega (arith, three))
  BeginWithParts-items t (more_nodes c (more_nodes (node ab no_nodes) (more_nodes s no_nodes))) rest d are first items
      three =
      let none : (entry_at es (entry_at es 1).next).items ≡ 0 =
      (node-algorithm x es t ab c s no_nodes rest d are).entry.items in (
        (λ a b r p. absurd (ArePartsBehind-nothing_inside x es t ab c s rest d are first a b r p)),
        (λ begin. absurd (omega (arith, begin.some, none))),
      )
  BeginWithParts-items t (more_nodes c (more_nodes (node ab (more_nodes i is)) (more_nodes s no_nodes))) rest d are
      first items three = (
        BeginWithParts-found x es t ab c i s is rest d are first items,
        ArePartsBehind-begin x es t ab c i s is rest d are first,
      )
  BeginWithParts-items t (more_nodes c (more_nodes n (more_nodes s (more_nodes m ms)))) rest d are first items three =
      absurd (omega (arith, three))

  -- the parts that are found behind a SEQUENCE of three are those of the triple that the entries begin with, if they do
  pub BeginWithParts-entries : (ns : Nodes) → IsStructure x ns →
      AreEntries x 0 (nodes_in_order ns) (nodes_depths 0 ns) es →
      IsUniversal SEQUENCE (entry_at es 0) → (entry_at es 0).items ≡ 3
      → ((a b r : Block) → ArePartsBehind x (content_end es) a b r → BeginWithParts es b r)
      × (BeginWithTriple es → HasPartsBehind x es)
  BeginWithParts-entries no_nodes d are first items = absurd (omega (arith, d.0.some, ap length d.0.blocks))
  BeginWithParts-entries (more_nodes (node t ms) rest) d are first items =
      let w = IsNodeAndEntry-drop x es (more_nodes (node t ms) rest) d are 0 (node t ms) (nodes_in_order rest) refl in
      BeginWithParts-items t ms rest d are first items (sym w.entry.items ∙ items)

-- a document whose entries begin with no triple has another shape
pub IsOfAnotherShape-entries : (x : List ℕ) (es : List Entry) → IsOutline x es → (BeginWithTriple es → ⊥) →
    IsOfAnotherShape x
IsOfAnotherShape-entries x es (bs, d, are) none =
    let own : IsStructure x are.nodes = (subst (IsDocument x) (sym are.trees) d, are.structure) in
    (bs, d, λ p rest e. none (BeginWithTriple-trees x es are.nodes p rest own are.entries (are.trees ∙ e)))

-- the parts that were found behind a SEQUENCE of three are those of the triple that the document begins with
pub AreRecordsOfParts-found : (x : List ℕ) (es : List Entry) (s : SignedAnswer) → IsOutline x es →
    IsUniversal SEQUENCE (entry_at es 0) → (entry_at es 0).items ≡ 3 → (a : Block)
    → ArePartsBehind x (content_end es) a s.algorithm s.signature →
    s.status ≡ done → s.content ≡ single_record (entry_at es 1)
    → AreRecordsOfParts x s
AreRecordsOfParts-found x es s (bs, d, are) first items a p status content =
    let own : IsStructure x are.nodes = (subst (IsDocument x) (sym are.trees) d, are.structure) in
    let f = (BeginWithParts-entries x es are.nodes own are.entries first items).0 a s.algorithm s.signature p in
    let h = HasSignedTriple-entries x es are.nodes own are.entries f.begin in
    let (_, _, _, _, _, links) = p.is_identifier.0 in
    let (_, _, _, _, _, last_links) = p.is_signature.0 in (
      status,
      h.parts,
      h.signed,
      subst (IsRecord x h.parts.content) (sym content) h.content,
      subst (IsRecord x (identifier_tree h.parts)) f.is_identifier h.identifier,
      subst (IsRecord x (signature_tree h.parts)) f.is_signature h.signature,
      (ap (λ (z : Block). z.next) content, ap (λ (z : Block). z.depth) content),
      links,
      last_links,
    )

-- the first two entries of a document, where what was signed follows no parts of a triple, begin with no triple
pub BeginWithTriple-no_parts : (x : List ℕ) (es : List Entry) → IsOutline x es → IsUniversal SEQUENCE (entry_at es 0) →
    (entry_at es 0).items ≡ 3 → ((a i s : Block) → ArePartsBehind x (content_end es) a i s → ⊥)
    → BeginWithTriple es → ⊥
BeginWithTriple-no_parts x es (bs, d, are) first items none begin =
    let own : IsStructure x are.nodes = (subst (IsDocument x) (sym are.trees) d, are.structure) in
    let (a, i, s, p) = (BeginWithParts-entries x es are.nodes own are.entries first items).1 begin in
    none a i s p

-- the second entry of a document is of an encoding
pub IsOfEncoding-second : (x : List ℕ) (es : List Entry) → IsOutline x es → 1 < length es →
    IsOfEncoding x (single_record (entry_at es 1))
IsOfEncoding-second x es (bs, d, are) two =
    let all = nodes_in_order are.nodes in
    let depths = nodes_depths 0 are.nodes in
    let size = length-entries x 0 all depths es are.entries in
    IsOfEncoding-entry x (entry_at es 1)
    (IsEntry-get_or x 0 all depths es are.entries 1 (omega (arith, size, two))).header

-- less than two entries begin with no triple
pub BeginWithTriple-two : (es : List Entry) → length es < 2 → BeginWithTriple es → ⊥
BeginWithTriple-two [] few begin = omega (arith, begin.whole.1)
BeginWithTriple-two (e ∷ []) few begin = omega (arith, begin.identifier.1)
BeginWithTriple-two (e ∷ f ∷ es) few begin = omega (arith, few)
