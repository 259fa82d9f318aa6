-- A document is canonical where each of its blocks, at whatever depth, has the shortest header and, as a leaf, the
-- contents octets that are written, for the functions of `canonical`.
use Rattle.std.proofs.Common.{◌≡◌, ◌≢◌, ℕ, suc, ◌+◌, ◌-◌, ◌<◌, ◌≤◌, ◌^◌, Bool, true, false, List, [], ◌∷◌, ◌++◌, inl, inr, length, take, drop, get_or, refl, sym, ap, ap₂, ◌∙◌, subst, arith, length-append, append_assoc, append-nil}
use Rattle.std.specs.Prelude.{All}
use Rattle.std.specs.List.{slice_range}
use Rattle.std.proofs.lemmas.Bool.{cases_lt, cond_below}
use Rattle.std.proofs.lemmas.List.{get_or-drop, length-drop, take_at}
use Rattle.std.proofs.lemmas.List.Elements.{All-drop}
use Rattle.std.specs.Int.Digits.{digits_of}
use Rattle.asn1_numbers.specs.Base128.{shortest_base128}
use Rattle.asn1_headers.specs.Front.{IsAtFront}
use Rattle.asn1_headers.specs.Header.{Encoding, leading_octet, shortest_identifier, shortest_length}
use Rattle.asn1_headers.specs.declared.whole_header.Header.{Header}
use Rattle.asn1_headers.specs.declared.header.ASN1Class.{ASN1Class}
use Rattle.asn1_headers.specs.declared.header.ASN1Class.TheVariants.{Universal}
use Rattle.asn1_headers.proofs.Prefixes.{Encoding-unique, Encoding-not_empty}
use Rattle.asn1_blocks.specs.declared.block.GroupKind.{GroupKind}
use Rattle.asn1_blocks.specs.Contents.{group_tag, leaf_contents, leaf_tag}
use Rattle.asn1_blocks.specs.Grammar.{Encodes, EncodesAll, IsDocument}
use Rattle.asn1_blocks.specs.Places.{EncodingAt}
use Rattle.asn1_blocks.specs.Tree.{Leaf, Trees, explicit, group, leaf, unknown}
use Rattle.asn1_blocks.specs.View.{tree_offset}
use Rattle.asn1_blocks.proofs.Leaves.{leaf_tag-not_group_tag}
use Rattle.asn1_blocks.proofs.OneReading.{EncodesAll-unique, EncodesAll-single}
use Rattle.asn1_blocks.proofs.Slices.{tree_offset-encodes}
use Rattle.asn1_outline.specs.Entries.{AreEntriesOf, HasHeaderAt, no_entry}
use Rattle.asn1_outline.specs.Structure.{AreNodes, IsNode, Node, Nodes, more_nodes, no_node, no_nodes, node, node_in_order, node_tree, nodes_depths, nodes_in_order, nodes_trees}
use Rattle.asn1_outline.specs.declared.entry.Entry.{Entry}
use Rattle.asn1_outline.proofs.Entries.{length-entries, IsEntry-get_or}
use Rattle.asn1_outline.proofs.Standing.{drop-contents, length-contents_two_less, drop-first, drop-rest}
use Rattle.asn1_outline.proofs.Values.{slice_range-at_offset}
use Rattle.asn1_writing.specs.Canonical.{all_canonical, canonical, shortest_encoding}
use Rattle.asn1_writing.specs.Inner.CanonicalEncoding.{BeginsCanonical, IsCanonicalEncoding}
use Rattle.asn1_outline.specs.Inner.InEntries.{HasCanonicalAt, HasShortestAt}
use Rattle.asn1_writing.specs.Inner.InPlace.{AreCanonicalContents}
use Rattle.asn1_writing.proofs.InPlace.{BeginsShortest-of_size}

-- octets that encode a tree where a canonical encoding stands are canonical
IsCanonicalEncoding-at_offset :
    (x y rest : List ℕ) (o : ℕ) (c : ASN1Class) (k : Bool) (n : ℕ) (v : List ℕ) (h : ℕ) → drop o x ≡ y ++ rest →
    Encoding y c k n v h → HasCanonicalAt x o → IsCanonicalEncoding y c k n v
IsCanonicalEncoding-at_offset x y rest o c k n v h s e there =
    let same = Encoding-unique there.octets y there.class c there.constructed k there.tag n there.contents v
    there.header h there.at_offset.rest rest there.encoding e (sym there.at_offset.at_offset ∙ s) in
    let q0 = there.canonical in
    let q1 = subst (λ z. IsCanonicalEncoding z there.class there.constructed there.tag there.contents) same.octets q0 in
    let q2 = subst (λ z. IsCanonicalEncoding y z there.constructed there.tag there.contents) same.class q1 in
    let q3 = subst (λ z. IsCanonicalEncoding y c z there.tag there.contents) same.constructed q2 in
    let q4 = subst (λ z. IsCanonicalEncoding y c k z there.contents) same.tag q3 in
    subst (λ z. IsCanonicalEncoding y c k n z) same.contents q4

-- the encoding at the offset of each node is canonical
abbrev AllStand : List ℕ → List Node → Type 0
AllStand x [] = Unit {0}
AllStand x (n ∷ ns) = HasCanonicalAt x (tree_offset (node_tree n)) × AllStand x ns

-- where all nodes of two lists are canonical, those of each are
AllStand-split : (x : List ℕ) (ns ms : List Node) → AllStand x (ns ++ ms) → AllStand x ns × AllStand x ms
AllStand-split x [] ms all = (tt, all)
AllStand-split x (n ∷ ns) ms all =
    let rest = AllStand-split x ns ms all.1 in
    ((all.0, rest.0), rest.1)

-- where each node is canonical, all are
AllStand-each :
    (x : List ℕ) (ns : List Node) →
    ((k : ℕ) → k < length ns → HasCanonicalAt x (tree_offset (node_tree (get_or ns k no_node)))) → AllStand x ns
AllStand-each x [] f = tt
AllStand-each x (n ∷ ns) f = (f 0 (omega arith), AllStand-each x ns (λ k h. f (suc k) (omega (arith, h))))

-- the shortest encoding of fields is that of equal fields
shortest_encoding-equal : (c : ASN1Class) (j k : Bool) (n : ℕ) (v w y : List ℕ) → y ≡ shortest_encoding c j n v →
    j ≡ k → v ≡ w
    → y ≡ shortest_encoding c k n w
shortest_encoding-equal c j k n v w y e p q =
    e ∙ ap (λ z. shortest_encoding c z n v) p ∙ ap (λ z. shortest_encoding c k n z) q

mutual
  -- the octets of a node are its canonical octets where all nodes in it are canonical
  canonical-node_tree :
      (x : List ℕ) (n : Node) (y rest : List ℕ) → drop (tree_offset (node_tree n)) x ≡ y ++ rest →
      Encodes (tree_offset (node_tree n)) y (node_tree n) → IsNode x n → AllStand x (node_in_order n) →
      y ≡ canonical (node_tree n)
  canonical-node_tree x (node (leaf o l) ns) y rest s (_, bit, contents, header, F, means) is all =
      let is_canonical =
      IsCanonicalEncoding-at_offset x y rest o Universal bit (leaf_tag l) contents header s F all.0 in
      shortest_encoding-equal Universal bit false (leaf_tag l) contents (leaf_contents l) y is_canonical.shortest
      (is_canonical.primitive refl l refl) (is_canonical.leaf refl l refl means)
  canonical-node_tree x (node (group o g items) ns) y rest s (_, bit, contents, header, F, encoded) is all =
      let is_canonical =
      IsCanonicalEncoding-at_offset x y rest o Universal bit (group_tag g) contents header s F all.0 in
      let stands = drop-contents x y rest Universal bit (group_tag g) contents o header s F in
      let held = subst (λ z. EncodesAll (o + header) contents z) (sym is.0) encoded in
      let inside = all_canonical-nodes_trees x ns (o + header) contents rest stands held is.1 all.1 in
      shortest_encoding-equal Universal bit true (group_tag g) contents (all_canonical items) y is_canonical.shortest
      (is_canonical.group refl g refl) (inside ∙ ap all_canonical is.0)
  canonical-node_tree x (node (explicit c o n b) ns) y rest s (_, _, contents, header, F, item) is all =
      let is_canonical = IsCanonicalEncoding-at_offset x y rest o c true n contents header s F all.0 in
      let stands = drop-contents x y rest c true n contents o header s F in
      let held =
      subst (λ z. EncodesAll (o + header) contents z) (sym is.0) (EncodesAll-single (o + header) contents b item) in
      let inside = all_canonical-nodes_trees x ns (o + header) contents rest stands held is.1 all.1 in
      shortest_encoding-equal c true true n contents (canonical b) y is_canonical.shortest refl
      (inside ∙ ap all_canonical is.0 ∙ append-nil (canonical b))
  canonical-node_tree x (node (unknown c k o n v) ns) y rest s (_, header, F, _) is all =
      (IsCanonicalEncoding-at_offset x y rest o c k n v header s F all.0).shortest

  -- the octets of nodes are their canonical octets where all nodes in them are canonical
  all_canonical-nodes_trees :
      (x : List ℕ) (ns : Nodes) (place : ℕ) (v rest : List ℕ) → drop place x ≡ v ++ rest →
      EncodesAll place v (nodes_trees ns) →
      AreNodes x ns → AllStand x (nodes_in_order ns) → v ≡ all_canonical (nodes_trees ns)
  all_canonical-nodes_trees x no_nodes place v rest s e are all = e
  all_canonical-nodes_trees x (more_nodes n ns) place v rest s e are all =
      let both = AllStand-split x (node_in_order n) (nodes_in_order ns) all in
      let at = tree_offset-encodes place e.first (node_tree n) e.item in
      let front = drop-first x place v e.first e.rest rest s e.whole in
      let first = canonical-node_tree x n e.first (e.rest ++ rest)
      (subst (λ z. drop z x ≡ e.first ++ (e.rest ++ rest)) (sym at) front)
      (subst (λ z. Encodes z e.first (node_tree n)) (sym at) e.item) are.0 both.0 in
      let behind = drop-rest x place v e.first e.rest rest s e.whole in
      let later = all_canonical-nodes_trees x ns (place + length e.first) e.rest rest behind e.items are.1 both.1 in
      e.whole ∙ ap₂ (λ a b. a ++ b) first later

-- a document is canonical where a canonical encoding stands at the offset of each of its entries
pub all_canonical-entries :
    (x : List ℕ) (bs cs : Trees ℕ) (rs : List Entry) → AreEntriesOf x bs rs →
    ((k : ℕ) → k < length rs → HasCanonicalAt x (get_or rs k no_entry).offset) → IsDocument x cs → IsDocument x bs →
    x ≡ all_canonical cs
all_canonical-entries x bs cs rs are all d e =
    let ns = are.nodes in
    let order = nodes_in_order ns in
    let many = length-entries x 0 order (nodes_depths 0 ns) rs are.entries in
    let each = AllStand-each x order (λ k h.
    let own = IsEntry-get_or x 0 order (nodes_depths 0 ns) rs are.entries k h in
    subst (HasCanonicalAt x) own.offset (all k (omega (arith, h, many)))) in
    let own : EncodesAll 0 x (nodes_trees ns) = subst (λ z. EncodesAll 0 x z) (sym are.trees) e.blocks in
    all_canonical-nodes_trees x ns 0 x [] (sym (append-nil x)) own are.structure each
    ∙ ap all_canonical (are.trees ∙ EncodesAll-unique 0 x bs cs e.blocks d.blocks)

-- each entry has the header at its offset
pub HasHeaderAt-get_or :
    (x : List ℕ) (bs : Trees ℕ) (rs : List Entry) → AreEntriesOf x bs rs → (k : ℕ) → k < length rs →
    HasHeaderAt x (get_or rs k no_entry)
HasHeaderAt-get_or x bs rs are k h =
    let order = nodes_in_order are.nodes in
    let depths = nodes_depths 0 are.nodes in
    (IsEntry-get_or x 0 order depths rs are.entries k
    (omega (arith, h, length-entries x 0 order depths rs are.entries))).header

-- an encoding y with the fields of an entry stands in the document x
module _ (x y v : List ℕ) (r : Entry) (n : ℕ) (at : EncodingAt x r.offset y) (size : r.contents ≡ length v)
    (e : Encoding y r.class r.constructed n v r.header) where
  -- an encoding is as long as its entry's header and contents octets
  length-encoding : length y ≡ r.header + r.contents
  length-encoding = omega (
    arith,
    e.size,
    size,
    ap length e.whole,
    length-append e.identifier (e.len ++ v),
    length-append e.len v,
  )

  -- the octets of an entry lie in the document
  pub end-within : r.offset + r.header + r.contents ≤ length x
  end-within =
      let some = Encoding-not_empty y r.class r.constructed n v r.header e in
      omega (arith, length-encoding, some, ap length at.at_offset, length-append y at.rest, length-drop r.offset x)

  -- the header of an entry has two octets at least
  pub header-two_le : 2 ≤ r.header
  header-two_le = omega (arith, length-encoding, size, length-contents_two_less y r.class r.constructed n v r.header e)

  -- the contents octets of the entry stand behind its header
  pub slice_range-contents : slice_range x (r.offset + r.header) (r.offset + r.header + r.contents) ≡ v
  slice_range-contents =
      let after = drop-contents x y at.rest r.class r.constructed n v r.offset r.header at.at_offset e in
      slice_range-at_offset x v at.rest (r.offset + r.header) (r.offset + r.header + r.contents) after (omega (
        arith,
        size,
      ))

  -- the header that the fields of an entry describe
  abbrev header_of_fields : Header
  header_of_fields = record {
    class = r.class;
    constructed = r.constructed;
    tag = n;
    identifier = length e.identifier;
    size = r.header;
    announced = length v;
    has_length_80 = false;
    is_indefinite = false;
  }

  -- the header of an entry stands at the front of the octets from its offset on
  IsAtFront-fields : IsAtFront (drop r.offset x) header_of_fields
  IsAtFront-fields =
      let i = e.identifier in
      let l = e.len in
      let head : length (i ++ l) ≡ r.header = omega (arith, e.size, length-append i l) in
      let whole : drop r.offset x ≡ (i ++ l) ++ (v ++ at.rest) =
      at.at_offset ∙ ap (λ z. z ++ at.rest) (e.whole ∙ sym (append_assoc i l v)) ∙ append_assoc (i ++ l) v at.rest in
      record {
        within = omega (arith, ap length whole, length-append (i ++ l) (v ++ at.rest), head);
        identifier = i;
        len = l;
        front_is = ap (take r.header) whole ∙ take_at (i ++ l) (v ++ at.rest) r.header head;
        fields = e.identifier_octets;
        length_octets = e.length_octets;
      }

  -- an encoding with a header as long as the shortest, whose length octets are not 80, is the shortest encoding
  pub shortest_encoding-of_size :
      All (λ b. b < 256) x → n < 31 → (r.contents ≡ 0 → get_or x (r.offset + r.header - 1) 0 ≢ 128) →
      r.header ≡ 1 + length (shortest_length r.contents) → y ≡ shortest_encoding r.class r.constructed n v
  unfolding IsAtFront-fields
  shortest_encoding-of_size all low other same =
      let i = e.identifier in
      let l = e.len in
      let one : length (shortest_identifier r.class r.constructed n) ≡ 1 =
      ap length (sym (cond_below n 31 (leading_octet r.class r.constructed n ∷ [])
      (leading_octet r.class r.constructed 31 ∷ shortest_base128 n) low)) in
      let place : r.offset + (r.header - 1) ≡ r.offset + r.header - 1 = omega (arith, header-two_le) in
      let last : get_or (drop r.offset x) (r.header - 1) 0 ≡ get_or x (r.offset + r.header - 1) 0 =
      get_or-drop r.offset x (r.header - 1) 0 ∙ ap (λ z. get_or x z 0) place in
      let not : length v ≡ 0 →
      get_or (drop r.offset x) (r.header - 1) 0 ≢ 128 = λ none is. other (size ∙ none) (sym last ∙ is) in
      let count : length (shortest_identifier r.class r.constructed n) + length (shortest_length (length v))
      ≡ r.header =
      omega (arith, one, same, ap (λ z. length (shortest_length z)) size) in
      let begins =
      BeginsShortest-of_size (drop r.offset x) header_of_fields
      (All-drop (λ b. b < 256) r.offset x all) IsAtFront-fields not count in
      let si = shortest_identifier r.class r.constructed n in
      let sl = shortest_length (length v) in
      e.whole ∙ sym (append_assoc i l v) ∙ ap (λ z. z ++ v) (sym IsAtFront-fields.front_is ∙ begins.shortest)
      ∙ append_assoc si sl v

-- an entry whose header has no more octets than the shortest has the shortest
pub HasShortestAt-of_size :
    (x : List ℕ) (r : Entry) → All (λ b. b < 256) x → HasHeaderAt x r → r.tag < 31 →
    (r.contents ≡ 0 → get_or x (r.offset + r.header - 1) 0 ≢ 128) → r.header ≡ 1 + length (shortest_length r.contents) →
    HasShortestAt x r
HasShortestAt-of_size x r all (y, at, h) low other same =
    let tag : h.tag ≡ r.tag = elim (cases_lt h.tag (2 ^ 64)) [
      | inl lt ↦ sym (h.tag_field.0 lt)
      | inr ge ↦ absurd (omega (arith, h.tag_field.1 ge, low))
    ] in
    let e : Encoding y r.class r.constructed r.tag h.contents r.header =
    subst (λ z. Encoding y r.class r.constructed z h.contents r.header) tag h.encoding in
    record {
      octets = y;
      at_offset = at;
      contents = h.contents;
      size = h.contents_field;
      encoding = e;
      shortest = shortest_encoding-of_size x y h.contents r r.tag at h.contents_field e all low other same;
    }

-- the encoding of an entry lies in the octets
pub HasHeaderAt-within : (x : List ℕ) (r : Entry) → HasHeaderAt x r → r.offset + r.header + r.contents ≤ length x
HasHeaderAt-within x r (y, at, h) = end-within x y h.contents r h.tag at h.contents_field h.encoding

-- an entry's header has two octets at least
pub HasHeaderAt-two_le : (x : List ℕ) (r : Entry) → HasHeaderAt x r → 2 ≤ r.header
HasHeaderAt-two_le x r (y, at, h) = header-two_le x y h.contents r h.tag at h.contents_field h.encoding

-- where an entry's header stands, whatever encoding stands there is canonical
pub HasCanonicalAt-front : (x : List ℕ) (r : Entry) → HasHeaderAt x r → BeginsCanonical (drop r.offset x) →
    HasCanonicalAt x r.offset
HasCanonicalAt-front x r (y, at, h) begins = record {
  octets = y;
  at_offset = at;
  class = r.class;
  constructed = r.constructed;
  tag = h.tag;
  contents = h.contents;
  header = r.header;
  encoding = h.encoding;
  canonical = begins y at.rest r.class r.constructed h.tag h.contents r.header at.at_offset h.encoding;
}

-- a canonical encoding with the shortest header stands at an entry's offset
HasCanonicalAt-shortest : (x : List ℕ) (r : Entry) → (s : HasShortestAt x r) →
    IsCanonicalEncoding s.octets r.class r.constructed r.tag s.contents
    → HasCanonicalAt x r.offset
HasCanonicalAt-shortest x r s is = record {
  octets = s.octets;
  at_offset = s.at_offset;
  class = r.class;
  constructed = r.constructed;
  tag = r.tag;
  contents = s.contents;
  header = r.header;
  encoding = s.encoding;
  canonical = is;
}

-- a SEQUENCE or SET with the shortest header is canonical
pub HasCanonicalAt-group : (x : List ℕ) (r : Entry) → HasShortestAt x r → (g : GroupKind) × (r.tag ≡ group_tag g) →
    r.constructed ≡ true →
    HasCanonicalAt x r.offset
HasCanonicalAt-group x r s is constructed = HasCanonicalAt-shortest x r s (record {
  shortest = s.shortest;
  group = λ u g t. constructed;
  primitive = λ u l t. absurd (of l t);
  leaf = λ u l t m. absurd (of l t);
})
  where
    -- the tag number of a SEQUENCE or SET is no leaf's
    of : (l : Leaf) → r.tag ≡ leaf_tag l → ⊥
    of l t = leaf_tag-not_group_tag l is.0 (sym t ∙ is.1)

-- a leaf with the shortest header and canonical contents octets is canonical
pub HasCanonicalAt-leaf :
    (x w : List ℕ) (r : Entry) → HasShortestAt x r → r.constructed ≡ false →
    w ≡ slice_range x (r.offset + r.header) (r.offset + r.header + r.contents) →
    AreCanonicalContents Universal false r.tag w → HasCanonicalAt x r.offset
HasCanonicalAt-leaf x w r s primitive is keeps =
    let there : w ≡ s.contents =
    is ∙ slice_range-contents x s.octets s.contents r r.tag s.at_offset s.size s.encoding in
    let own = subst (AreCanonicalContents Universal false r.tag) there keeps in
    HasCanonicalAt-shortest x r s (record {
      shortest = s.shortest;
      group = λ u g t. absurd (own.no_group refl g t);
      primitive = λ u l t. primitive;
      leaf = λ u l t m. own.leaf refl l t m;
    })

-- an encoding of another class with the shortest header is canonical
pub HasCanonicalAt-not_universal : (x : List ℕ) (r : Entry) → HasShortestAt x r → r.class ≢ Universal →
    HasCanonicalAt x r.offset
HasCanonicalAt-not_universal x r s other = HasCanonicalAt-shortest x r s (record {
  shortest = s.shortest;
  group = λ u g t. absurd (other u);
  primitive = λ u l t. absurd (other u);
  leaf = λ u l t m. absurd (other u);
})

-- a length below 128 has one octet
pub length-short_length : (n : ℕ) → n < 128 → length (shortest_length n) ≡ 1
length-short_length n small =
    let ds = digits_of 256 n in
    ap length (sym (cond_below n 128 (n ∷ []) ((128 + length ds) ∷ ds) small))
