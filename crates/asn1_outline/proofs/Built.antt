-- The block that is built of an entry has the tree of its node, for `building::block_around`, `building::block_of` and
-- `outline::Outline::to_block`.
use Rattle.std.proofs.Common.{◌≡◌, ◌≢◌, ℕ, ◌-◌, ◌++◌, Bool, true, List, [], ◌∷◌, drop, inl, inr, length, map, refl, sym, ap, ◌∙◌, subst, arith}
use Rattle.std.specs.Prelude.{reverse, slice_range}
use Rattle.std.proofs.lemmas.List.{map-append, reverse-append}
use Rattle.asn1_headers.specs.Header.{Encoding}
use Rattle.asn1_headers.specs.declared.header.ASN1Class.{ASN1Class}
use Rattle.asn1_headers.specs.declared.header.ASN1Class.TheVariants.{Universal}
use Rattle.asn1_blocks.specs.declared.block.ASN1Block.{ASN1Block}
use Rattle.asn1_blocks.specs.declared.block.GroupKind.{GroupKind}
use Rattle.asn1_blocks.specs.declared.parsed.PlacedHeader.{PlacedHeader}
use Rattle.asn1_blocks.specs.Contents.{group_tag}
use Rattle.asn1_blocks.specs.Grammar.{Encodes, EncodesAll}
use Rattle.asn1_blocks.specs.Places.{HeaderFound, EncodingAt}
use Rattle.asn1_blocks.specs.Tree.{Tree, Trees, explicit, group, leaf, more_trees, no_trees, trees_of, unknown}
use Rattle.asn1_blocks.specs.View.{tree_offset, view}
use Rattle.asn1_blocks.specs.Inner.EqualityLaws.{group_tag-injective}
use Rattle.asn1_blocks.proofs.Leaves.{leaf_tag-not_group_tag}
use Rattle.asn1_blocks.proofs.OneReading.{Encodes-unique, IsBlock-encodes, Encodes-single}
use Rattle.asn1_blocks.proofs.Slices.{EncodingAt-unique}
use Rattle.asn1_outline.specs.Building.{IsNodeAt, items_of, tree_list}
use Rattle.asn1_outline.specs.Structure.{Holds, IsEncodedIn, Node, node_items, node_tree, nodes_trees}
use Rattle.asn1_outline.proofs.Roots.{trees_of-listed}
use Rattle.asn1_outline.proofs.Standing.{EncodingAt-encoded}
use Rattle.asn1_outline.proofs.Values.{SameEncoding-octets}
use Rattle.std.proofs.lemmas.List.Folds.{drop_split}

-- the octets behind a header that was found are those of the tree there
pub Encodes-found_header :
    (x : List ℕ) (b : Tree ℕ) (octets : List ℕ) (o : ℕ) (g : PlacedHeader) → IsEncodedIn x b octets →
    o ≡ tree_offset b → HeaderFound x o (length x) g →
    Encodes o (slice_range x o g.end) b
Encodes-found_header x b octets o g s at found =
    let y = slice_range x o g.end in
    let there : EncodingAt x o y = record {
      rest = drop g.end x;
      at_offset = drop_split x o g.end (omega (arith, found.starts_after, found.order));
      encoding = record {
        class = g.class;
        constructed = g.constructed;
        tag = g.tag;
        contents = slice_range x g.start g.end;
        header = g.start - o;
        encoding = found.encoding;
      };
    } in
    let own = subst (λ z. EncodingAt x z octets) (sym at) (EncodingAt-encoded x b octets s) in
    let same = EncodingAt-unique x o octets y own there in
    subst (λ z. Encodes o z b) same (subst (λ z. Encodes z octets b) (sym at) s.encoded)

module _ (x : List ℕ) (o : ℕ) (y : List ℕ) (n : ℕ) (v : List ℕ) (h : ℕ) (bs : Trees ℕ) where
  -- an encoding of a SEQUENCE or SET encodes a group of the trees that it holds
  pub Encodes-group : (k : Bool) (g : GroupKind) (b : Tree ℕ) → Encoding y Universal k (group_tag g) v h →
      Encodes o y b →
      Holds x b bs
      → b ≡ group o g bs
  Encodes-group k g (leaf p l) e (_, _, _, _, F, _) q =
      absurd (leaf_tag-not_group_tag l g (SameEncoding-octets y _ _ _ _ _ _ _ _ _ _ F e).tag)
  Encodes-group k g (group p i items) e (place, _, _, _, F, _) q =
      let kind : i ≡ g = group_tag-injective i g (SameEncoding-octets y _ _ _ _ _ _ _ _ _ _ F e).tag in
      let at : p ≡ o = place in
      let own : bs ≡ items = q in
      cc
  Encodes-group k g (explicit c p m b) e (_, other, _, _, F, _) q =
      absurd (other (SameEncoding-octets y _ _ _ _ _ _ _ _ _ _ F e).class)
  Encodes-group k g (unknown c j p m w) e (_, _, F, stays) q =
      let z = SameEncoding-octets y _ _ _ _ _ _ _ _ _ _ F e in
      absurd (elim stays [
        | inl (_, (_, no_group)) ↦ no_group g z.tag
        | inr other ↦ other.0 z.class
      ])

  module _ (c : ASN1Class) (other : c ≢ Universal) (e : Encoding y c true n v h) where
    -- a constructed encoding of another class that holds one block encodes this block in explicit tagging
    pub Encodes-explicit : (b t : Tree ℕ) → Encodes o y b → Holds x b bs → bs ≡ more_trees t no_trees →
        b ≡ explicit c o n t
    Encodes-explicit (leaf p l) t (_, _, _, _, F, _) q one =
        absurd (other (sym (SameEncoding-octets y _ _ _ _ _ _ _ _ _ _ F e).class))
    Encodes-explicit (group p i items) t (_, _, _, _, F, _) q one =
        absurd (other (sym (SameEncoding-octets y _ _ _ _ _ _ _ _ _ _ F e).class))
    Encodes-explicit (explicit d p m a) t (place, _, _, _, F, _) q one =
        let z = SameEncoding-octets y _ _ _ _ _ _ _ _ _ _ F e in
        let class : d ≡ c = z.class in
        let tag : m ≡ n = z.tag in
        let at : p ≡ o = place in
        let all : more_trees a no_trees ≡ more_trees t no_trees = sym q ∙ one in
        let own : a ≡ t = cc in
        cc
    Encodes-explicit (unknown d j p m w) t (_, _, F, stays) q one =
        let z = SameEncoding-octets y _ _ _ _ _ _ _ _ _ _ F e in
        absurd (elim stays [
          | inl known ↦ other (sym z.class ∙ known.0)
          | inr rest ↦ elim q [
            | inl (bit, place, u, f) ↦ rest.1
                (bit, IsBlock-encodes place w t (Encodes-single place w t (subst (EncodesAll place w) one f)))
            | inr (none, held) ↦ no_more t (sym one ∙ none)
          ]
        ])
      where
        -- one tree is not no trees
        no_more : (t : Tree ℕ) → more_trees t no_trees ≡ no_trees → ⊥
        no_more t r = absurd (cc)

    -- a constructed encoding of another class that does not hold exactly one block stays as it came
    pub Encodes-as_it_came : (b : Tree ℕ) → Encodes o y b → Holds x b bs →
        ((t : Tree ℕ) → bs ≡ more_trees t no_trees → ⊥) →
        b ≡ unknown c true o n v
    Encodes-as_it_came (leaf p l) (_, _, _, _, F, _) q none =
        absurd (other (sym (SameEncoding-octets y _ _ _ _ _ _ _ _ _ _ F e).class))
    Encodes-as_it_came (group p i items) (_, _, _, _, F, _) q none =
        absurd (other (sym (SameEncoding-octets y _ _ _ _ _ _ _ _ _ _ F e).class))
    Encodes-as_it_came (explicit d p m a) s q none = absurd (none a q)
    Encodes-as_it_came (unknown d j p m w) (place, _, F, _) q none =
        let z = SameEncoding-octets y _ _ _ _ _ _ _ _ _ _ F e in
        let class : d ≡ c = z.class in
        let bit : j ≡ true = z.constructed in
        let tag : m ≡ n = z.tag in
        let own : w ≡ v = z.contents in
        let at : p ≡ o = place in
        cc

-- the tree of a node at the offset where a header was found
module _ (x : List ℕ) (o : ℕ) (n : Node) (g : PlacedHeader) (found : HeaderFound x o (length x) g) (at : IsNodeAt x o n)
  where
    -- the octets of the header that was found encode the node's tree
    Encodes-node_tree : Encodes o (slice_range x o g.end) (node_tree n)
    Encodes-node_tree = Encodes-found_header x (node_tree n) at.octets o g at.encoded at.offset found

    -- the tree of a node at the header of a SEQUENCE or SET is a group of its items
    pub node_tree-group : (kind : GroupKind) → g.class ≡ Universal → g.tag ≡ group_tag kind →
        node_tree n ≡ group o kind (nodes_trees (node_items n))
    node_tree-group kind class tag =
        let y = slice_range x o g.end in
        let v = slice_range x g.start g.end in
        let e = subst (λ z. Encoding y z g.constructed (group_tag kind) v (g.start - o)) class
        (subst (λ z. Encoding y g.class g.constructed z v (g.start - o)) tag found.encoding) in
        Encodes-group x o y 0 v (g.start - o) (nodes_trees (node_items n)) g.constructed kind
        (node_tree n) e Encodes-node_tree at.holds

    -- the tree of a node is the block that the contents octets at its header encode
    pub node_tree-leaf : (b : Tree ℕ) →
        ((octets : List ℕ) (h : ℕ) → Encoding octets g.class g.constructed g.tag (slice_range x g.start g.end) h →
        Encodes o octets b)
        → b ≡ node_tree n
    node_tree-leaf b means =
        let y = slice_range x o g.end in
        let (_, same, _) =
        Encodes-unique o y y [] [] b (node_tree n) (means y (g.start - o) found.encoding) Encodes-node_tree refl in
        same

    module _ (other : g.class ≢ Universal) (set : g.constructed ≡ true) where
      -- the octets from a constructed header that was found are a constructed encoding
      Encoding-constructed : Encoding (slice_range x o g.end) g.class true g.tag (slice_range x g.start g.end)
          (g.start - o)
      Encoding-constructed = subst (λ z. Encoding (slice_range x o g.end) g.class z g.tag (slice_range x g.start g.end)
          (g.start - o)) set found.encoding

      -- at a constructed header of another class, the tree of a node with one item is this item in explicit tagging
      pub node_tree-explicit : (t : Tree ℕ) → items_of n ≡ t ∷ [] → node_tree n ≡ explicit g.class o g.tag t
      node_tree-explicit t one =
          let bs = nodes_trees (node_items n) in
          let only : bs ≡ more_trees t no_trees = sym (trees_of-listed bs) ∙ ap trees_of one in
          Encodes-explicit x o (slice_range x o g.end) g.tag (slice_range x g.start g.end)
          (g.start - o) bs g.class other Encoding-constructed (node_tree n) t Encodes-node_tree at.holds only

      -- at a constructed header of another class, the tree of a node stays as it came unless it has exactly one item
      pub node_tree-as_it_came : length (items_of n) ≢ 1 →
          node_tree n ≡ unknown g.class true o g.tag (slice_range x g.start g.end)
      node_tree-as_it_came many =
          let bs = nodes_trees (node_items n) in
          Encodes-as_it_came x o (slice_range x o g.end) g.tag (slice_range x g.start g.end)
          (g.start - o) bs g.class other Encoding-constructed
          (node_tree n) Encodes-node_tree at.holds (λ t only. many (ap (λ z. length (tree_list z)) only))

-- the values of a function over a reversed list are the reversed values over the list
pub map-reverse : {A B : Type 0} (f : A → B) (xs : List A) → map f (reverse xs) ≡ reverse (map f xs)
map-reverse f [] = refl
map-reverse f (x ∷ xs) =
    ap (map f) (reverse-append (x ∷ []) xs) ∙ map-append f (reverse xs) (x ∷ [])
    ∙ ap (λ z. z ++ f x ∷ []) (map-reverse f xs)
    ∙ sym (reverse-append (f x ∷ []) (map f xs))

-- the tree of a node at a constructed encoding of another class is explicit around one block, and otherwise as it came
pub node_tree-not_universal :
    (x : List ℕ) (o : ℕ) (n : Node) (g : PlacedHeader) (found : HeaderFound x o (length x) g) (at : IsNodeAt x o n)
    (inside : List ASN1Block) (t : Tree ℕ) →
    g.class ≢ Universal → g.constructed ≡ true → map view inside ≡ items_of n →
    ((item : ASN1Block) → inside ≡ item ∷ [] → t ≡ explicit g.class o g.tag (view item)) →
    (length inside ≢ 1 → t ≡ unknown g.class true o g.tag (slice_range x g.start g.end)) → t ≡ node_tree n
node_tree-not_universal x o n g found at [] t other set own one kept =
    kept (λ e. omega (arith, e)) ∙ sym
    (node_tree-as_it_came x o n g found at other set (λ e. omega (arith, e, ap length own)))
node_tree-not_universal x o n g found at (b ∷ []) t other set own one kept =
    one b refl ∙ sym (node_tree-explicit x o n g found at other set (view b) (sym own))
node_tree-not_universal x o n g found at (a ∷ b ∷ bs) t other set own one kept =
    kept (λ e. omega (arith, e)) ∙ sym
    (node_tree-as_it_came x o n g found at other set (λ e. omega (arith, e, ap length own)))
