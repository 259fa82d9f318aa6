-- An entry has the fields of its tree's encoding and says whether the tree is explicit, for
-- `outline::Outline::block` and `block_ref::BlockRef::is_explicit`.
use Rattle.std.proofs.Common.{◌≡◌, ◌≢◌, ◌↔◌, ℕ, suc, ◌++◌, Bool, true, List, [], inl, inr, length, refl, sym, ap, ◌∙◌, subst, arith}
use Rattle.std.proofs.lemmas.Bool.{false≢true}
use Rattle.std.specs.Bool.{one_answer}
use Rattle.asn1_headers.specs.Header.{Encoding}
use Rattle.asn1_headers.specs.declared.header.ASN1Class.{ASN1Class}
use Rattle.asn1_headers.specs.declared.header.ASN1Class.TheVariants.{Universal}
use Rattle.asn1_headers.proofs.Prefixes.{SameEncoding, Encoding-unique}
use Rattle.asn1_blocks.specs.Grammar.{EncodesAll}
use Rattle.asn1_blocks.specs.Places.{EncodingAt}
use Rattle.asn1_outline.specs.Entries.{HasEntryHeader, IsCapped}
use Rattle.asn1_blocks.specs.Tree.{Tree, explicit, group, leaf, more_trees, no_trees, unknown}
use Rattle.asn1_blocks.specs.View.{tree_offset}
use Rattle.asn1_blocks.proofs.OneReading.{IsBlock-encodes, Encodes-single}
use Rattle.asn1_blocks.proofs.Slices.{EncodingAt-unique}
use Rattle.asn1_outline.specs.Structure.{Holds, IsEncodedIn, Nodes, is_explicit, more_nodes, no_nodes, node_count, node_tree, nodes_trees}
use Rattle.asn1_outline.specs.Values.{IsEntryOf}
use Rattle.asn1_outline.specs.declared.entry.Entry.{Entry}
use Rattle.asn1_outline.proofs.Standing.{EncodingAt-encoded}
use Rattle.asn1_outline.proofs.Values.{EntryContents-entry, SameEncoding-octets}

-- the entry has these fields
abbrev pub HasItsFields : Tree ℕ → Entry → ASN1Class → Bool → ℕ → List ℕ → ℕ → Type 0
HasItsFields b r c k n v h =
    (r.offset ≡ tree_offset b) × (r.class ≡ c) × (r.constructed ≡ k) × IsCapped n r.tag × (r.contents ≡ length v)
    × (r.header ≡ h)

-- the entry's fields are those of the tree's octets
module _ (x : List ℕ) (b : Tree ℕ) (r : Entry) (y : List ℕ) (c : ASN1Class) (k : Bool) (n : ℕ) (v : List ℕ) (h : ℕ)
    (e : IsEntryOf x b r)
    (s : IsEncodedIn x b y) (f : Encoding y c k n v h) where
  -- an entry of a tree has the fields of the tree's encoding
  SameEncoding-entry : (octets : List ℕ) (at : EncodingAt x r.offset octets) (own : HasEntryHeader octets r)
      → SameEncoding octets y r.class c r.constructed k own.tag n own.contents v r.header h [] []
  SameEncoding-entry octets at own =
      let same = EncodingAt-unique x (tree_offset b) octets y (subst (λ o. EncodingAt x o octets) e.offset_is at)
      (EncodingAt-encoded x b y s) in
      Encoding-unique octets y r.class c r.constructed k own.tag n own.contents v r.header h [] [] own.encoding f
      (ap (λ z. z ++ []) same)

  -- an entry of a tree has the fields of the tree's encoding, one by one
  pub HasItsFields-entry : HasItsFields b r c k n v h
  HasItsFields-entry =
      let (octets, at, own) = e.header in
      let same = SameEncoding-entry octets at own in (
        e.offset_is,
        same.class,
        same.constructed,
        subst (λ z. IsCapped z r.tag) same.tag own.tag_field,
        own.contents_field ∙ ap length same.contents,
        same.header,
      )

-- nodes without trees are no nodes
node_count-no_trees : (ns : Nodes) → nodes_trees ns ≡ no_trees → node_count ns ≡ 0
node_count-no_trees no_nodes e = refl
node_count-no_trees (more_nodes n ns) e =
    let none : more_trees (node_tree n) (nodes_trees ns) ≡ no_trees = e in
    absurd (cc)

-- nodes with one tree are one node
node_count-one_tree : (ns : Nodes) (b : Tree ℕ) → nodes_trees ns ≡ more_trees b no_trees → node_count ns ≡ 1
node_count-one_tree no_nodes b e =
    let none : no_trees ≡ more_trees b no_trees = e in
    absurd (cc)
node_count-one_tree (more_nodes n ns) b e =
    let all : more_trees (node_tree n) (nodes_trees ns) ≡ more_trees b no_trees = e in
    let rest : nodes_trees ns ≡ no_trees = cc in
    ap suc (node_count-no_trees ns rest)

-- one node has one tree
nodes_trees-one_node : (ns : Nodes) → node_count ns ≡ 1 → (b : Tree ℕ) × (nodes_trees ns ≡ more_trees b no_trees)
nodes_trees-one_node no_nodes e = absurd (omega (arith, e))
nodes_trees-one_node (more_nodes n no_nodes) e = (node_tree n, refl)
nodes_trees-one_node (more_nodes n (more_nodes m ns)) e = absurd (omega (arith, e))

module _ (x : List ℕ) (r : Entry) where
  -- a block of another class with one item is explicit
  pub is_explicit-one_item : (b : Tree ℕ) (ns : Nodes) → Holds x b (nodes_trees ns) → IsEntryOf x b r →
      r.items ≡ node_count ns
      → (r.class ≢ Universal) × (r.items ≡ 1) → is_explicit b ≡ true
  is_explicit-one_item (leaf p l) ns holds e count (other, one) =
      let c = EntryContents-entry x (leaf p l) r e in
      let (_, bit, contents, header, F, _) = c.encoded in
      let z =
      SameEncoding-octets c.octets _ r.class bit r.constructed _ c.tag contents c.contents header r.header F
      c.encoding in
      absurd (other (sym z.class))
  is_explicit-one_item (group p g items) ns holds e count (other, one) =
      let c = EntryContents-entry x (group p g items) r e in
      let (_, bit, contents, header, F, _) = c.encoded in
      let z =
      SameEncoding-octets c.octets _ r.class bit r.constructed _ c.tag contents c.contents header r.header F
      c.encoding in
      absurd (other (sym z.class))
  is_explicit-one_item (explicit class p m b) ns holds e count (other, one) = refl
  is_explicit-one_item (unknown class k p m v) ns holds e count (other, one) =
      let c = EntryContents-entry x (unknown class k p m v) r e in
      let (_, header, F, stays) = c.encoded in
      let z =
      SameEncoding-octets c.octets class r.class k r.constructed m c.tag v c.contents header r.header F c.encoding in
      absurd (elim stays [
        | inl known ↦ other (sym z.class ∙ known.0)
        | inr rest ↦ elim holds [
          | inl (bit, q, t, f) ↦
              let (b, is) = nodes_trees-one_node ns (sym count ∙ one) in
              rest.1 (bit, IsBlock-encodes q v b (Encodes-single q v b (subst (EncodesAll q v) is f)))
          | inr (none, o) ↦ omega (arith, one, count, node_count-no_trees ns none)
        ]
      ])

  -- an explicit block is of another class and has one item
  pub one_item-is_explicit : (b : Tree ℕ) (ns : Nodes) → Holds x b (nodes_trees ns) → IsEntryOf x b r →
      r.items ≡ node_count ns
      → is_explicit b ≡ true → (r.class ≢ Universal) × (r.items ≡ 1)
  one_item-is_explicit (leaf p l) ns holds e count is = absurd (false≢true is)
  one_item-is_explicit (group p g items) ns holds e count is = absurd (false≢true is)
  one_item-is_explicit (explicit class p m b) ns holds e count is =
      let c = EntryContents-entry x (explicit class p m b) r e in
      let (_, not_universal, contents, header, F, _) = c.encoded in
      let z =
      SameEncoding-octets c.octets class r.class true r.constructed m c.tag contents c.contents header r.header F
      c.encoding in
      (λ u. not_universal (z.class ∙ u), count ∙ node_count-one_tree ns b holds)
  one_item-is_explicit (unknown class k p m v) ns holds e count is = absurd (false≢true is)

  -- a test of class and number of items tells whether a block is explicit
  pub is_explicit-tested : (b : Tree ℕ) (tested : Bool) → IsEntryOf x b r →
      (tested ≡ true ↔ ((r.class ≢ Universal) × (r.items ≡ 1))) → tested ≡ is_explicit b
  is_explicit-tested b tested e (to, from) =
      one_answer tested (is_explicit b) (
        λ y. is_explicit-one_item b e.inside e.holds e e.items_are (to y),
        λ y. from (one_item-is_explicit b e.inside e.holds e e.items_are y),
      ) (λ y. y, λ y. y)
