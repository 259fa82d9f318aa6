-- The signed triple that the entries of a document begin with, for `signed::parts_in`.
use Rattle.std.proofs.Common.{◌≡◌, ℕ, ◌+◌, ◌<◌, ◌++◌, Bool, List, [], ◌∷◌, drop, get_or, length, refl, sym, ap, subst, ◌∙◌, arith, inl, inr, append_assoc, length-append, drop-drop}
use Rattle.std.proofs.lemmas.List.{drop_at, get_or-drop, length-drop}
use Rattle.asn1_headers.specs.Header.{Encoding}
use Rattle.asn1_headers.specs.declared.header.ASN1Class.TheVariants.{Universal}
use Rattle.asn1_blocks.specs.declared.block.GroupKind.TheVariants.{Sequence, Set}
use Rattle.asn1_headers.proofs.Prefixes.{Encoding-unique}
use Rattle.asn1_blocks.proofs.Leaves.{is_leaf_tag-leaf_tag, is_leaf_tag-not_group_tag}
use Rattle.asn1_blocks.proofs.Slices.{EncodingAt-unique}
use Rattle.asn1_outline.proofs.Entries.{IsEntry-get_or}
use Rattle.asn1_outline.proofs.Standing.{EncodingAt-encoded, IsStanding-structure}
use Rattle.asn1_outline.proofs.Values.{IsCapped-small, SameEncoding-octets}
use Rattle.asn1_outline.specs.Entries.{AreEntries, IsEntry}
use Rattle.asn1_outline.specs.Triple.{BeginWithTriple, IsUniversal, entry_at}
use Rattle.asn1_outline.specs.declared.entry.Entry.{Entry}
use Rattle.asn1_leaves.specs.StringKind.{StringKind, utf8, printable, teletex, ia5, universal, bmp}
use Rattle.simple_asn1.specs.Contents.{leaf_tag, string_tag}
use Rattle.simple_asn1.specs.Grammar.{Encodes, IsDocument}
use Rattle.simple_asn1.specs.Places.{EncodingAt}
use Rattle.simple_asn1.specs.SignedTrees.{IsSigned, SignedParts, algorithm_tree, signature_tree, signed_tree, signed_trees}
use Rattle.simple_asn1.specs.Structure.{Holds, IsEncodedIn, IsNode, IsStructure, Node, Nodes, more_nodes, no_node, no_nodes, node, node_at, node_count, node_in_order, node_items, node_tree, nodes_depths, nodes_in_order, nodes_trees}
use Rattle.simple_asn1.specs.Tree.{Leaf, Tree, Trees, bit_string, boolean, explicit, generalized_time, group, integer, leaf, more_trees, no_trees, null, object_identifier, octet_string, text, unknown, utc_time}
use Rattle.simple_asn1.specs.View.{tree_offset}
use Rattle.asn1_records.proofs.Entries.{HasRecordHeader-block_of}
use Rattle.asn1_records.specs.Answers.{identifier_tree}
use Rattle.asn1_records.specs.Records.{IsRecord, block_of}
use Rattle.asn1_records.specs.declared.record.Block.{Block}

-- the tree's encoding is of class Universal with the tag number
pub record HasUniversalTag (x : List ℕ) (b : Tree ℕ) (tag : ℕ) : Type 0 where
  octets : List ℕ
  encoded : Encodes (tree_offset b) octets b
  constructed : Bool
  contents : List ℕ
  header : ℕ
  encoding : Encoding octets Universal constructed tag contents header

-- the tree of a universal entry with a small tag number is encoded with it
pub HasUniversalTag-entry : (x : List ℕ) (n : Node) (i d tag : ℕ) (e : Entry) (y : List ℕ) → IsEntry x n i d e →
    IsEncodedIn x (node_tree n) y → tag < 64 → IsUniversal tag e
    → HasUniversalTag x (node_tree n) tag
HasUniversalTag-entry x n i d tag e y is s small (class, number) =
    let b = node_tree n in
    let (octets, at, h) = is.header in
    let same = EncodingAt-unique x (tree_offset b) octets y (subst (λ o. EncodingAt x o octets) is.offset at)
    (EncodingAt-encoded x b y s) in
    let t = IsCapped-small h.tag e.tag tag h.tag_field number small in
    let own = subst (λ c. Encoding octets c e.constructed h.tag h.contents e.header) class h.encoding in
    record {
      octets = octets;
      encoded = subst (λ z. Encodes (tree_offset b) z b) (sym same) s.encoded;
      constructed = e.constructed;
      contents = h.contents;
      header = e.header;
      encoding = subst (λ z. Encoding octets Universal e.constructed z h.contents e.header) t own;
    }

-- a tree that is encoded with the tag of a SEQUENCE is a SEQUENCE
pub HasUniversalTag-sequence : (x : List ℕ) (b : Tree ℕ) → HasUniversalTag x b 16 →
    (bs : Trees ℕ) × (b ≡ group (tree_offset b) Sequence bs)
HasUniversalTag-sequence x (leaf p l) t =
    let (_, _, _, _, encoding, _) = t.encoded in
    let same = SameEncoding-octets t.octets _ _ _ _ _ _ _ _ _ _ encoding t.encoding in
    absurd (is_leaf_tag-not_group_tag (leaf_tag l) Sequence (is_leaf_tag-leaf_tag l) same.tag)
HasUniversalTag-sequence x (group p Sequence bs) t = (bs, refl)
HasUniversalTag-sequence x (group p Set bs) t =
    let (_, _, _, _, encoding, _) = t.encoded in
    let same = SameEncoding-octets t.octets _ _ _ _ _ _ _ _ _ _ encoding t.encoding in
    absurd (omega (arith, same.tag))
HasUniversalTag-sequence x (explicit c p n b) t =
    let (_, other, _, _, encoding, _) = t.encoded in
    let same = SameEncoding-octets t.octets _ _ _ _ _ _ _ _ _ _ encoding t.encoding in
    absurd (other same.class)
HasUniversalTag-sequence x (unknown c k p n v) t =
    let (_, _, encoding, stays) = t.encoded in
    let same = SameEncoding-octets t.octets _ _ _ _ _ _ _ _ _ _ encoding t.encoding in
    absurd (elim stays [
      | inl (_, no_rule) ↦ no_rule.1 Sequence same.tag
      | inr (other, _) ↦ other same.class
    ])

-- a tree that is encoded with the tag of a leaf is a leaf with it
pub HasUniversalTag-leaf : (x : List ℕ) (b : Tree ℕ) (m : Leaf) → HasUniversalTag x b (leaf_tag m) →
    (l : Leaf) × (leaf_tag l ≡ leaf_tag m) × (b ≡ leaf (tree_offset b) l)
HasUniversalTag-leaf x (leaf p l) m t =
    let (_, _, _, _, encoding, _) = t.encoded in
    let same = SameEncoding-octets t.octets _ _ _ _ _ _ _ _ _ _ encoding t.encoding in
    (l, same.tag, refl)
HasUniversalTag-leaf x (group p g bs) m t =
    let (_, _, _, _, encoding, _) = t.encoded in
    let same = SameEncoding-octets t.octets _ _ _ _ _ _ _ _ _ _ encoding t.encoding in
    absurd (is_leaf_tag-not_group_tag (leaf_tag m) g (is_leaf_tag-leaf_tag m) (sym same.tag))
HasUniversalTag-leaf x (explicit c p n b) m t =
    let (_, other, _, _, encoding, _) = t.encoded in
    let same = SameEncoding-octets t.octets _ _ _ _ _ _ _ _ _ _ encoding t.encoding in
    absurd (other same.class)
HasUniversalTag-leaf x (unknown c k p n v) m t =
    let (_, _, encoding, stays) = t.encoded in
    let same = SameEncoding-octets t.octets _ _ _ _ _ _ _ _ _ _ encoding t.encoding in
    absurd (elim stays [
      | inl (_, no_rule) ↦ no_rule.0 m same.tag
      | inr (other, _) ↦ other same.class
    ])

-- no kind of string has a tag below 7
string_tag-not_lt_7 : (kind : StringKind) → string_tag kind < 7 → ⊥
string_tag-not_lt_7 utf8 h = omega (arith, h)
string_tag-not_lt_7 printable h = omega (arith, h)
string_tag-not_lt_7 teletex h = omega (arith, h)
string_tag-not_lt_7 ia5 h = omega (arith, h)
string_tag-not_lt_7 universal h = omega (arith, h)
string_tag-not_lt_7 bmp h = omega (arith, h)

-- a leaf with the tag 6 is an OBJECT IDENTIFIER
leaf_tag-object_identifier : (l : Leaf) → leaf_tag l ≡ 6 → (ns : List ℕ) × (l ≡ object_identifier ns)
leaf_tag-object_identifier (boolean v) e = absurd (omega (arith, e))
leaf_tag-object_identifier (integer n) e = absurd (omega (arith, e))
leaf_tag-object_identifier (bit_string n v) e = absurd (omega (arith, e))
leaf_tag-object_identifier (octet_string v) e = absurd (omega (arith, e))
leaf_tag-object_identifier null e = absurd (omega (arith, e))
leaf_tag-object_identifier (object_identifier ns) e = (ns, refl)
leaf_tag-object_identifier (text kind cs) e = absurd (string_tag-not_lt_7 kind (omega (arith, e)))
leaf_tag-object_identifier (utc_time m) e = absurd (omega (arith, e))
leaf_tag-object_identifier (generalized_time m) e = absurd (omega (arith, e))

-- a leaf with the tag 3 is a BIT STRING
leaf_tag-bit_string : (l : Leaf) → leaf_tag l ≡ 3 → (n : ℕ) × (v : List ℕ) × (l ≡ bit_string n v)
leaf_tag-bit_string (boolean v) e = absurd (omega (arith, e))
leaf_tag-bit_string (integer n) e = absurd (omega (arith, e))
leaf_tag-bit_string (bit_string n v) e = (n, v, refl)
leaf_tag-bit_string (octet_string v) e = absurd (omega (arith, e))
leaf_tag-bit_string null e = absurd (omega (arith, e))
leaf_tag-bit_string (object_identifier ns) e = absurd (omega (arith, e))
leaf_tag-bit_string (text kind cs) e = absurd (string_tag-not_lt_7 kind (omega (arith, e)))
leaf_tag-bit_string (utc_time m) e = absurd (omega (arith, e))
leaf_tag-bit_string (generalized_time m) e = absurd (omega (arith, e))

-- the entry of octets of class Universal with a small tag number has this class and number
IsUniversal-entry :
    (x : List ℕ) (n : Node) (i d tag : ℕ) (e : Entry) (y : List ℕ) (k : Bool) (v : List ℕ) (h : ℕ) → IsEntry x n i d e →
    IsEncodedIn x (node_tree n) y →
    Encoding y Universal k tag v h → tag < 64 → IsUniversal tag e
IsUniversal-entry x n i d tag e y k v h is s f small =
    let b = node_tree n in
    let (octets, at, own) = is.header in
    let same = EncodingAt-unique x (tree_offset b) octets y (subst (λ o. EncodingAt x o octets) is.offset at)
    (EncodingAt-encoded x b y s) in
    let z = Encoding-unique octets y e.class Universal e.constructed k own.tag tag own.contents v e.header h [] []
    own.encoding f (ap (λ w. w ++ []) same) in
    (z.class, own.tag_field.0 (omega (arith, z.tag, small)) ∙ z.tag)

-- from a place behind a front on, a list is what follows the front
drop-past_front : {A : Type 0} (xs front rest : List A) (k j : ℕ) → drop k xs ≡ front ++ rest → j ≡ k + length front →
    drop j xs ≡ rest
drop-past_front xs front rest k j e at =
    ap (λ z. drop z xs) at ∙ sym (drop-drop (length front) k xs) ∙ ap (drop (length front)) e
    ∙ drop_at front rest (length front) refl

-- of a node, the nodes inside it and more behind them, the first is the node
get_or-first_node : (n : Node) (rest : List Node) → get_or (node_in_order n ++ rest) 0 no_node ≡ n
get_or-first_node (node b ns) rest = refl

-- a node and the nodes inside it are one node or more
node_in_order-not_empty : (n : Node) → 0 < length (node_in_order n)
node_in_order-not_empty (node b ns) = omega arith

-- the record of an entry by itself
abbrev pub single_record : Entry → Block
single_record e = record (block_of e) { next = 0; depth = 0 }

module _ (x : List ℕ) (es : List Entry) (ns : Nodes) (d : IsStructure x ns)
    (are : AreEntries x 0 (nodes_in_order ns) (nodes_depths 0 ns) es) where
  -- the node at an index, and its entry
  pub record IsNodeAndEntry (k : ℕ) (n : Node) : Type 0 where
    pub within : k < length (nodes_in_order ns)
    pub is : node_at ns k ≡ n
    pub depth : ℕ
    pub entry : IsEntry x n k depth (entry_at es k)
    pub octets : List ℕ
    pub encoded : IsEncodedIn x (node_tree n) octets
    pub holds : IsNode x n

  -- the node that comes next in order has its entry at this index
  pub IsNodeAndEntry-drop : (k : ℕ) (n : Node) (rest : List Node) →
      drop k (nodes_in_order ns) ≡ node_in_order n ++ rest →
      IsNodeAndEntry k n
  IsNodeAndEntry-drop k n rest e =
      let all = nodes_in_order ns in
      let within : k < length all =
      omega (arith, ap length e, length-drop k all, length-append (node_in_order n) rest, node_in_order-not_empty n) in
      let same : k ≡ k + 0 = omega arith in
      let is : node_at ns k ≡ n =
      ap (λ z. get_or all z no_node) same ∙ sym (get_or-drop k all 0 no_node) ∙ ap (λ z. get_or z 0 no_node) e
      ∙ get_or-first_node n rest in
      let (y, s, h) = IsStanding-structure x ns d k within in
      let deep = get_or (nodes_depths 0 ns) k 0 in
      let own = IsEntry-get_or x 0 all (nodes_depths 0 ns) es are k within in
      let here : 0 + k ≡ k = omega arith in
      record {
        within = within;
        is = is;
        depth = deep;
        entry = subst (λ z. IsEntry x z k deep (entry_at es k)) is
            (subst (λ z. IsEntry x (node_at ns k) z deep (entry_at es k)) here own);
        octets = y;
        encoded = subst (λ z. IsEncodedIn x (node_tree z) y) is s;
        holds = subst (IsNode x) is h;
      }

  -- the record of a node that was found is that of its tree
  IsRecord-node : (k : ℕ) (n : Node) (b : Tree ℕ) → IsNodeAndEntry k n → node_tree n ≡ b →
      IsRecord x b (single_record (entry_at es k))
  IsRecord-node k n b f e =
      let w = f.entry in
      let r = entry_at es k in
      let h = HasRecordHeader-block_of x (node_tree n) r f.octets w.header w.offset f.encoded in
      record {
        ns = ns;
        structure = d;
        place = k;
        within = f.within;
        tree = ap node_tree f.is ∙ e;
        octets = f.octets;
        encoded = subst (λ z. IsEncodedIn x z f.octets) e f.encoded;
        header = record {
          class = h.class;
          constructed = h.constructed;
          tag = h.tag;
          contents = h.contents;
          encoding = h.encoding;
          class_field = h.class_field;
          constructed_field = h.constructed_field;
          tag_field = h.tag_field;
          contents_field = h.contents_field;
        };
        offset = w.offset ∙ ap tree_offset e;
        items = w.items ∙ ap (λ z. node_count (node_items z)) (sym f.is);
      }

-- a SEQUENCE holds its items
pub Holds-sequence : (x : List ℕ) (b : Tree ℕ) (o : ℕ) (bs held : Trees ℕ) → b ≡ group o Sequence bs → Holds x b held →
    held ≡ bs
Holds-sequence x b o bs held e h = subst (λ z. Holds x z held) e h

-- the entries of a document begin with a signed triple of these parts
pub record HasSignedTriple (x : List ℕ) (es : List Entry) : Type 0 where
  pub parts : SignedParts
  pub signed : IsSigned x parts
  pub content : IsRecord x parts.content (single_record (entry_at es 1))
  pub identifier : IsRecord x (identifier_tree parts) (single_record (entry_at es ((entry_at es 1).next + 1)))
  pub signature : IsRecord x (signature_tree parts)
      (single_record (entry_at es (entry_at es (entry_at es 1).next).next))

-- a document whose first block holds three
module _ (x : List ℕ) (es : List Entry) (t ab : Tree ℕ) (c s : Node) (inner rest : Nodes) where
  abbrev middle : Node
  middle = node ab inner

  abbrev outer : Node
  outer = node t (more_nodes c (more_nodes middle (more_nodes s no_nodes)))

  abbrev all_three : Nodes
  all_three = more_nodes outer rest

  module _ (d : IsStructure x all_three)
      (are : AreEntries x 0 (nodes_in_order all_three) (nodes_depths 0 all_three) es) where
    -- behind the first node in order stand what was signed, the algorithm, the signature and the rest
    drop-whole : drop 1 (nodes_in_order all_three)
        ≡ node_in_order c ++ (node_in_order middle ++ (node_in_order s ++ ([] ++ nodes_in_order rest)))
    drop-whole =
        let x = node_in_order c in
        let y = node_in_order middle in
        let z = node_in_order s in
        let r = nodes_in_order rest in
        append_assoc x (y ++ (z ++ [])) r ∙ ap (λ w. x ++ w) (append_assoc y (z ++ []) r)
        ∙ ap (λ w. x ++ (y ++ w)) (append_assoc z [] r)

    -- the first node has the entry at the index 0
    pub node-whole : IsNodeAndEntry x es all_three d are 0 outer
    node-whole = IsNodeAndEntry-drop x es all_three d are 0 outer (nodes_in_order rest) refl

    -- the node of what was signed has the entry at the index 1
    pub node-content : IsNodeAndEntry x es all_three d are 1 c
    node-content =
        IsNodeAndEntry-drop x es all_three d are 1 c
        (node_in_order middle ++ (node_in_order s ++ ([] ++ nodes_in_order rest))) drop-whole

    -- the node of the algorithm has the entry behind what was signed
    pub node-algorithm : IsNodeAndEntry x es all_three d are (entry_at es 1).next middle
    node-algorithm =
        let after = node_in_order s ++ ([] ++ nodes_in_order rest) in
        IsNodeAndEntry-drop x es all_three d are (entry_at es 1).next middle after
        (drop-past_front (nodes_in_order all_three) (node_in_order c) (node_in_order middle ++ after) 1
        (entry_at es 1).next drop-whole
        node-content.entry.next)

    -- behind what was signed stand the algorithm, the signature and the rest
    pub drop-content : drop (entry_at es 1).next (nodes_in_order all_three)
        ≡ node_in_order middle ++ (node_in_order s ++ ([] ++ nodes_in_order rest))
    drop-content =
        drop-past_front (nodes_in_order all_three) (node_in_order c)
        (node_in_order middle ++ (node_in_order s ++ ([] ++ nodes_in_order rest))) 1
        (entry_at es 1).next drop-whole node-content.entry.next

    -- the node of the signature has the entry behind the algorithm and all inside it
    pub node-signature : IsNodeAndEntry x es all_three d are (entry_at es (entry_at es 1).next).next s
    node-signature =
        let after = [] ++ nodes_in_order rest in
        IsNodeAndEntry-drop x es all_three d are (entry_at es (entry_at es 1).next).next s after
        (drop-past_front (nodes_in_order all_three) (node_in_order middle) (node_in_order s ++ after)
        (entry_at es 1).next (entry_at es (entry_at es 1).next).next drop-content node-algorithm.entry.next)

-- a document whose first block holds three, the second of which holds some
module _ (x : List ℕ) (es : List Entry) (t ab : Tree ℕ) (c i s : Node) (is rest : Nodes) where
  abbrev algorithm : Node
  algorithm = node ab (more_nodes i is)

  abbrev whole : Node
  whole = node t (more_nodes c (more_nodes algorithm (more_nodes s no_nodes)))

  abbrev all : Nodes
  all = more_nodes whole rest

  module _ (d : IsStructure x all) (are : AreEntries x 0 (nodes_in_order all) (nodes_depths 0 all) es) where
    -- the node of the algorithm's identifier has the entry behind that of the algorithm
    pub node-identifier : IsNodeAndEntry x es all d are ((entry_at es 1).next + 1) i
    node-identifier =
        let after = node_in_order s ++ ([] ++ nodes_in_order rest) in
        let more = nodes_in_order is ++ after in
        let front : drop (entry_at es 1).next (nodes_in_order all) ≡ (algorithm ∷ []) ++ (node_in_order i ++ more) =
        drop-content x es t ab c s (more_nodes i is) rest d are
        ∙ ap (λ w. algorithm ∷ w) (append_assoc (node_in_order i) (nodes_in_order is) after) in
        IsNodeAndEntry-drop x es all d are ((entry_at es 1).next + 1) i more
        (drop-past_front (nodes_in_order all) (algorithm ∷ []) (node_in_order i ++ more) (entry_at es 1).next
        ((entry_at es 1).next + 1) front refl)

    -- a document whose entries have the tags of a triple begins with a signed triple
    pub HasSignedTriple-nodes : BeginWithTriple es → HasSignedTriple x es
    HasSignedTriple-nodes begin =
        let w = node-whole x es t ab c s (more_nodes i is) rest d are in
        let (bs, group_is) = HasUniversalTag-sequence x t
        (HasUniversalTag-entry x whole 0 w.depth 16 (entry_at es 0) w.octets w.entry w.encoded
        (omega arith) begin.whole) in
        let f = node-algorithm x es t ab c s (more_nodes i is) rest d are in
        let (others, algorithm_is) = HasUniversalTag-sequence x ab
        (HasUniversalTag-entry x algorithm (entry_at es 1).next f.depth 16
        (entry_at es (entry_at es 1).next) f.octets f.entry
        f.encoded (omega arith) begin.algorithm) in
        let g = node-identifier in
        let (l, six, leaf_is) = HasUniversalTag-leaf x (node_tree i) (object_identifier [])
        (HasUniversalTag-entry x i ((entry_at es 1).next + 1) g.depth 6
        (entry_at es ((entry_at es 1).next + 1)) g.octets g.entry
        g.encoded (omega arith) begin.identifier) in
        let (components, identifier_is) = leaf_tag-object_identifier l six in
        let q = node-signature x es t ab c s (more_nodes i is) rest d are in
        let (m, three, last_is) = HasUniversalTag-leaf x (node_tree s) (bit_string 0 [])
        (HasUniversalTag-entry x s (entry_at es (entry_at es 1).next).next q.depth 3
        (entry_at es (entry_at es (entry_at es 1).next).next) q.octets q.entry q.encoded (omega arith)
        begin.signature) in
        let (bits, octets, signature_is) = leaf_tag-bit_string m three in
        let p : SignedParts = record {
          offset = tree_offset t;
          content = node_tree c;
          algorithm_offset = tree_offset ab;
          identifier_offset = tree_offset (node_tree i);
          algorithm = components;
          parameters = nodes_trees is;
          signature_offset = tree_offset (node_tree s);
          bits = bits;
          signature = octets;
        } in
        let held : nodes_trees (more_nodes c (more_nodes algorithm (more_nodes s no_nodes))) ≡ bs =
        Holds-sequence x t (tree_offset t) bs _ group_is w.holds.0 in
        let algorithm_held : nodes_trees (more_nodes i is) ≡ others =
        Holds-sequence x ab (tree_offset ab) others _ algorithm_is f.holds.0 in
        let named : node_tree i ≡ identifier_tree p = leaf_is ∙ ap (leaf (tree_offset (node_tree i))) identifier_is in
        let last : node_tree s ≡ signature_tree p = last_is ∙ ap (leaf (tree_offset (node_tree s))) signature_is in
        let second_is : ab ≡ algorithm_tree p =
        algorithm_is ∙ ap (group (tree_offset ab) Sequence)
        (sym algorithm_held ∙ ap (λ z. more_trees z (nodes_trees is)) named) in
        let signed : t ≡ signed_tree p =
        group_is ∙ ap (group (tree_offset t) Sequence) (sym held
        ∙ ap (λ z. more_trees (node_tree c) (more_trees z (more_trees (node_tree s) no_trees))) second_is
        ∙ ap (λ z. more_trees (node_tree c) (more_trees (algorithm_tree p) (more_trees z no_trees))) last) in
        record {
          parts = p;
          signed = (nodes_trees rest, subst (IsDocument x) (ap (λ z. more_trees z (nodes_trees rest)) signed) d.0);
          content = IsRecord-node x es all d are 1 c p.content
              (node-content x es t ab c s (more_nodes i is) rest d are) refl;
          identifier = IsRecord-node x es all d are ((entry_at es 1).next + 1) i (identifier_tree p) g named;
          signature = IsRecord-node x es all d are (entry_at es (entry_at es 1).next).next s (signature_tree p) q last;
        }

    -- the entries of a signed triple have the tags of one
    pub BeginWithTriple-nodes : (p : SignedParts) → t ≡ signed_tree p → ab ≡ algorithm_tree p →
        node_tree i ≡ identifier_tree p →
        node_tree s ≡ signature_tree p
        → BeginWithTriple es
    BeginWithTriple-nodes p whole_is algorithm_is identifier_is signature_is =
        let w = node-whole x es t ab c s (more_nodes i is) rest d are in
        let f = node-algorithm x es t ab c s (more_nodes i is) rest d are in
        let g = node-identifier in
        let q = node-signature x es t ab c s (more_nodes i is) rest d are in
        let (_, whole_bit, whole_contents, whole_header, whole_encoding, _) =
        subst (λ z. Encodes (tree_offset t) w.octets z) whole_is w.encoded.encoded in
        let (_, algorithm_bit, algorithm_contents, algorithm_header, algorithm_encoding, _) =
        subst (λ z. Encodes (tree_offset ab) f.octets z) algorithm_is f.encoded.encoded in
        let (_, identifier_bit, identifier_contents, identifier_header, identifier_encoding, _) =
        subst (λ z. Encodes (tree_offset (node_tree i)) g.octets z) identifier_is g.encoded.encoded in
        let (_, signature_bit, signature_contents, signature_header, signature_encoding, _) =
        subst (λ z. Encodes (tree_offset (node_tree s)) q.octets z) signature_is q.encoded.encoded in
        record {
          whole = IsUniversal-entry x whole 0 w.depth 16 (entry_at es 0) w.octets whole_bit whole_contents
              whole_header w.entry w.encoded whole_encoding (omega arith);
          three = w.entry.items;
          algorithm = IsUniversal-entry x algorithm (entry_at es 1).next f.depth 16 (entry_at es (entry_at es 1).next)
              f.octets algorithm_bit algorithm_contents algorithm_header f.entry f.encoded algorithm_encoding
              (omega arith);
          some = omega (arith, f.entry.items);
          identifier =
              IsUniversal-entry x i ((entry_at es 1).next + 1) g.depth 6 (entry_at es ((entry_at es 1).next + 1))
              g.octets identifier_bit identifier_contents identifier_header g.entry g.encoded identifier_encoding
              (omega arith);
          signature = IsUniversal-entry x s (entry_at es (entry_at es 1).next).next q.depth 3
              (entry_at es (entry_at es (entry_at es 1).next).next) q.octets signature_bit signature_contents
              signature_header q.entry q.encoded signature_encoding (omega arith);
        }

-- all entries of a document, by whether they begin with a triple
module _ (x : List ℕ) (es : List Entry) where
  -- a document whose first block has three items and the tags of a triple begins with one
  HasSignedTriple-items : (t : Tree ℕ) (ms rest : Nodes) → IsStructure x (more_nodes (node t ms) rest)
      → AreEntries x 0 (nodes_in_order (more_nodes (node t ms) rest)) (nodes_depths 0 (more_nodes (node t ms) rest))
      es → BeginWithTriple es
      → node_count ms ≡ 3 → HasSignedTriple x es
  HasSignedTriple-items t no_nodes rest d are begin three = absurd (omega (arith, three))
  HasSignedTriple-items t (more_nodes c no_nodes) rest d are begin three = absurd (omega (arith, three))
  HasSignedTriple-items t (more_nodes c (more_nodes n no_nodes)) rest d are begin three = absurd (omega (arith, three))
  HasSignedTriple-items t (more_nodes c (more_nodes (node ab no_nodes) (more_nodes s no_nodes)))
      rest d are begin three =
      let none : (entry_at es (entry_at es 1).next).items ≡ 0 =
      (node-algorithm x es t ab c s no_nodes rest d are).entry.items in
      absurd (omega (arith, begin.some, none))
  HasSignedTriple-items t (more_nodes c (more_nodes (node ab (more_nodes i is)) (more_nodes s no_nodes)))
      rest d are begin
      three =
      HasSignedTriple-nodes x es t ab c i s is rest d are begin
  HasSignedTriple-items t (more_nodes c (more_nodes n (more_nodes s (more_nodes m ms)))) rest d are begin three =
      absurd (omega (arith, three))

  -- a document whose entries begin with the tags of a triple begins with one
  pub HasSignedTriple-entries : (ns : Nodes) → IsStructure x ns →
      AreEntries x 0 (nodes_in_order ns) (nodes_depths 0 ns) es →
      BeginWithTriple es → HasSignedTriple x es
  HasSignedTriple-entries no_nodes d are begin = absurd (omega (arith, d.0.some, ap length d.0.blocks))
  HasSignedTriple-entries (more_nodes (node t ms) rest) d are begin =
      let ns = more_nodes (node t ms) rest in
      let w = IsNodeAndEntry-drop x es ns d are 0 (node t ms) (nodes_in_order rest) refl in
      HasSignedTriple-items t ms rest d are begin (sym w.entry.items ∙ begin.three)

  -- entries of the trees of a triple begin with one
  pub BeginWithTriple-trees : (ns : Nodes) (p : SignedParts) (after : Trees ℕ) → IsStructure x ns →
      AreEntries x 0 (nodes_in_order ns) (nodes_depths 0 ns) es
      → nodes_trees ns ≡ signed_trees p after → BeginWithTriple es
  BeginWithTriple-trees no_nodes p after d are e =
      let none : no_trees ≡ signed_trees p after = e in
      absurd (cc)
  BeginWithTriple-trees (more_nodes (node t ms) rest) p after d are e =
      let same : more_trees t (nodes_trees rest) ≡ more_trees (signed_tree p) after = e in
      let first : t ≡ signed_tree p = cc in
      let (_, nodes) = d in
      let (whole, _) = nodes in
      let (holds, _) = whole in
      items_inside t ms rest p d are first (Holds-sequence x t p.offset _ (nodes_trees ms) first holds)
    where
      -- entries begin with a triple if their first node has the trees of one, and its algorithm has the items of one
      algorithm_inside : (t ab : Tree ℕ) (c s : Node) (bs rest : Nodes) (p : SignedParts)
          → IsStructure x (more_nodes (node t (more_nodes c (more_nodes (node ab bs) (more_nodes s no_nodes)))) rest)
          → AreEntries x 0 (nodes_in_order
          (more_nodes (node t (more_nodes c (more_nodes (node ab bs) (more_nodes s no_nodes)))) rest))
          (nodes_depths 0 (more_nodes (node t (more_nodes c (more_nodes (node ab bs) (more_nodes s no_nodes)))) rest))
          es
          → t ≡ signed_tree p → ab ≡ algorithm_tree p → node_tree s ≡ signature_tree p
          → nodes_trees bs ≡ more_trees (identifier_tree p) p.parameters → BeginWithTriple es
      algorithm_inside t ab c s no_nodes rest p d are first second last e =
          let none : no_trees ≡ more_trees (identifier_tree p) p.parameters = e in
          absurd (cc)
      algorithm_inside t ab c s (more_nodes i is) rest p d are first second last e =
          let same : more_trees (node_tree i) (nodes_trees is) ≡ more_trees (identifier_tree p) p.parameters = e in
          let named : node_tree i ≡ identifier_tree p = cc in
          BeginWithTriple-nodes x es t ab c i s is rest d are p first second named last

      -- entries begin with a triple if their first node has the tree of one, and items with the trees of its parts
      items_inside : (t : Tree ℕ) (ms rest : Nodes) (p : SignedParts) → IsStructure x (more_nodes (node t ms) rest)
          → AreEntries x 0 (nodes_in_order (more_nodes (node t ms) rest)) (nodes_depths 0 (more_nodes (node t ms) rest))
          es → t ≡ signed_tree p
          → nodes_trees ms ≡ more_trees p.content
          (more_trees (algorithm_tree p) (more_trees (signature_tree p) no_trees)) → BeginWithTriple es
      items_inside t no_nodes rest p d are first e =
          let none : no_trees ≡ more_trees p.content
          (more_trees (algorithm_tree p) (more_trees (signature_tree p) no_trees)) = e in
          absurd (cc)
      items_inside t (more_nodes c no_nodes) rest p d are first e =
          let none : more_trees (node_tree c) no_trees
          ≡ more_trees p.content (more_trees (algorithm_tree p) (more_trees (signature_tree p) no_trees)) = e in
          absurd (cc)
      items_inside t (more_nodes c (more_nodes n no_nodes)) rest p d are first e =
          let none : more_trees (node_tree c) (more_trees (node_tree n) no_trees)
          ≡ more_trees p.content (more_trees (algorithm_tree p) (more_trees (signature_tree p) no_trees)) = e in
          absurd (cc)
      items_inside t (more_nodes c (more_nodes (node ab bs) (more_nodes s no_nodes))) rest p d are first e =
          let same : more_trees (node_tree c) (more_trees ab (more_trees (node_tree s) no_trees))
          ≡ more_trees p.content (more_trees (algorithm_tree p) (more_trees (signature_tree p) no_trees)) = e in
          let second : ab ≡ algorithm_tree p = cc in
          let last : node_tree s ≡ signature_tree p = cc in
          let (_, nodes) = d in
          let (whole, _) = nodes in
          let (_, items) = whole in
          let (_, behind_content) = items in
          let (algorithm_node, _) = behind_content in
          let (holds, _) = algorithm_node in
          algorithm_inside t ab c s bs rest p d are first second last
          (Holds-sequence x ab p.algorithm_offset _ (nodes_trees bs) second holds)
      items_inside t (more_nodes c (more_nodes n (more_nodes s (more_nodes m ms)))) rest p d are first e =
          let none : more_trees (node_tree c)
          (more_trees (node_tree n) (more_trees (node_tree s) (more_trees (node_tree m) (nodes_trees ms))))
          ≡ more_trees p.content (more_trees (algorithm_tree p) (more_trees (signature_tree p) no_trees)) = e in
          absurd (cc)
