-- What an entry says of the tree at its index: which leaf, SEQUENCE or SET it is, what is inside explicit tagging,
-- whether it is of bits, and what a SET in implicit tagging holds. For the functions of `kinds`.
use Rattle.std.proofs.Common.{◌≡◌, ℕ, zero, suc, ◌<◌, ◌≤◌, Bool, true, false, List, [], ◌∷◌, Option, None, Some, inl, inr, length, map, refl, sym, ap, subst, ◌∙◌, arith, eq-eqb, ne_eqb, lit<}
use Rattle.std.specs.Prelude.{◌==◌, ◌&&◌, ◌↔◌, ◌+◌, slice_get, MatchOption}
use Rattle.std.specs.List.{slice_range}
use Rattle.std.proofs.Props.{props}
use Rattle.std.proofs.lemmas.Bool.{false≢true}
use Rattle.std.proofs.lemmas.List.{get_or_past}
use mathlib.Core.Logic.{∥∥₁_elim}
use Rattle.asn1_headers.specs.Header.{Encoding}
use Rattle.asn1_headers.specs.declared.header.ASN1Class.{ASN1Class}
use Rattle.asn1_headers.specs.declared.header.ASN1Class.TheVariants.{Application, ContextSpecific, Private, Universal}
use Rattle.asn1_blocks.specs.declared.block.GroupKind.{GroupKind}
use Rattle.asn1_blocks.specs.declared.block.GroupKind.TheVariants.{Sequence, Set}
use Rattle.asn1_blocks.specs.Contents.{group_tag, is_leaf_tag, leaf_tag}
use Rattle.asn1_blocks.specs.Grammar.{Encodes, IsDocument}
use Rattle.asn1_blocks.specs.Inner.LeafBlocks.{IsLeafOf}
use Rattle.asn1_blocks.specs.Tree.{Tree, Trees, explicit, group, leaf, more_trees, no_trees, null, trees_of, unknown}
use Rattle.asn1_blocks.specs.View.{tree_offset}
use Rattle.asn1_blocks.proofs.Leaves.{is_leaf_tag-leaf_tag, is_leaf_tag-not_group_tag}
use Rattle.asn1_blocks.proofs.Slices.{EncodingAt-unique}
use Rattle.asn1_outline.specs.Entries.{IsOutline}
use Rattle.asn1_outline.specs.Structure.{HasContents, Holds, IsStructure, Nodes, is_explicit, no_node, no_tree, node_at, node_items, node_tree, nodes_depths, nodes_in_order, nodes_trees, tree_at}
use Rattle.asn1_outline.specs.Values.{IsEntryOf, IsNoLeafWith}
use Rattle.asn1_outline.specs.declared.entry.Entry.{Entry}
use Rattle.asn1_outline.proofs.Entries.{length-entries}
use Rattle.asn1_outline.proofs.Standing.{EncodingAt-encoded, Holds-node_items, IsStanding-structure}
use Rattle.asn1_outline.proofs.Structures.{IsStructure-unique}
use Rattle.asn1_outline.proofs.Values.{EntryContents-entry, IsCapped-small, IsLeafOf-entry, IsNoLeafWith-entry, SameEncoding-octets}
use Rattle.asn1_certificate.specs.Held.{AreHeld}
use Rattle.asn1_certificate.specs.Sequences.{Found, are_bits, are_each, each, is_bits, is_leaf, sequence, sequence_of, sequence_of_some, set_of_some, some, tagged, tagged_set_of}
use Rattle.asn1_certificate.specs.Reading.{IsGroupOf, IsTagged, left, some_index, trees_at}
use Rattle.asn1_certificate.specs.declared.fields.Fields.{Fields}

-- class Universal is not class context-specific
universal-other : Universal ≡ ContextSpecific → ⊥
universal-other e = cc

-- an outline has as many entries as its structure has nodes
length-structure : (x : List ℕ) (es : List Entry) (ns : Nodes) → ∥ IsOutline x es ∥₁ → IsStructure x ns →
    length es ≡ length (nodes_in_order ns)
length-structure x es ns lent d =
    let prop : IsProp (length es ≡ length (nodes_in_order ns)) = hlevel props in
    ∥∥₁_elim lent prop (λ o.
    let (cs, e, are) = o in
    let own : IsStructure x are.nodes = (subst (IsDocument x) (sym are.trees) e, are.structure) in
    length-entries x 0 (nodes_in_order are.nodes) (nodes_depths 0 are.nodes) es are.entries
    ∙ ap (λ z. length (nodes_in_order z)) (IsStructure-unique x are.nodes ns own d))

-- past the last entry stands no tree
pub tree_at-past : (x : List ℕ) (es : List Entry) (ns : Nodes) (k : ℕ) → ∥ IsOutline x es ∥₁ → IsStructure x ns →
    length es ≤ k → tree_at ns k ≡ no_tree
tree_at-past x es ns k lent d past =
    let many = length-structure x es ns lent d in
    ap node_tree (get_or_past (nodes_in_order ns) k no_node (omega (arith, many, past)))

-- the tree at an index holds the trees of the items of its node
Holds-at : (x : List ℕ) (es : List Entry) (ns : Nodes) (k : ℕ) → ∥ IsOutline x es ∥₁ → IsStructure x ns →
    k < length es → Holds x (tree_at ns k) (nodes_trees (node_items (node_at ns k)))
Holds-at x es ns k lent d h =
    let many = length-structure x es ns lent d in
    let (y, s, is) = IsStanding-structure x ns d k (omega (arith, many, h)) in
    Holds-node_items x (node_at ns k) is

-- the tree of an entry of class Universal with the tag of a leaf is such a leaf
pub is_leaf-entry : (x : List ℕ) (b : Tree ℕ) (r : Entry) (n : ℕ) → IsEntryOf x b r → n < 64 → is_leaf_tag n ≡ true →
    r.class ≡ Universal → r.tag ≡ n → is_leaf n b ≡ true
is_leaf-entry x b r n e small t class tag =
    of_leaf (tree_offset b) (slice_range x (r.offset + r.header) (r.offset + r.header + r.contents)) b
    (IsLeafOf-entry x b r n e class tag small t)
  where
    of_leaf : (o : ℕ) (v : List ℕ) (c : Tree ℕ) → IsLeafOf o n v c → is_leaf n c ≡ true
    of_leaf o v (leaf p l) (_, own, _) = eq-eqb (leaf_tag l) n (sym own)
    of_leaf o v (group p g bs) h = absurd h
    of_leaf o v (explicit c p m d) h = absurd h
    of_leaf o v (unknown c k p m w) h = absurd h

-- the tree of another entry is none
pub is_leaf-other : (x : List ℕ) (b : Tree ℕ) (r : Entry) (n : ℕ) → IsEntryOf x b r → n < 64 →
    ((r.class ≡ Universal) × (r.tag ≡ n) → ⊥) → is_leaf n b ≡ false
is_leaf-other x b r n e small other = of_none b (IsNoLeafWith-entry x b r n e small other)
  where
    of_none : (c : Tree ℕ) → IsNoLeafWith n c → is_leaf n c ≡ false
    of_none (leaf p l) h = ne_eqb (leaf_tag l) n (h p l refl)
    of_none (group p g bs) h = refl
    of_none (explicit c p m d) h = refl
    of_none (unknown c k p m w) h = refl

-- the tree is a SEQUENCE or SET
abbrev pub IsGroup : GroupKind → Tree ℕ → Type 0
IsGroup g b = (o : ℕ) × (items : Trees ℕ) × (b ≡ group o g items)

group_tag-small : (g : GroupKind) → group_tag g < 64
group_tag-small Sequence = lit< tt
group_tag-small Set = lit< tt

-- groups of one tag number are of one kind
group_tag-same : (i j : GroupKind) → group_tag i ≡ group_tag j → i ≡ j
group_tag-same Sequence Sequence s = refl
group_tag-same Sequence Set s = absurd (omega (arith, s))
group_tag-same Set Sequence s = absurd (omega (arith, s))
group_tag-same Set Set s = refl

-- the tree of an encoding with the tag of a group is that group
IsGroup-encoding : (o : ℕ) (y : List ℕ) (b : Tree ℕ) (k : Bool) (g : GroupKind) (w : List ℕ) (h : ℕ) →
    Encodes o y b → Encoding y Universal k (group_tag g) w h → IsGroup g b
IsGroup-encoding o y (leaf p l) k g w h (_, bit, contents, header, F, _) e =
    let z = SameEncoding-octets y Universal Universal bit k (leaf_tag l) (group_tag g) contents w header h F e in
    absurd (is_leaf_tag-not_group_tag (leaf_tag l) g (is_leaf_tag-leaf_tag l) z.tag)
IsGroup-encoding o y (group p f bs) k g w h (_, bit, contents, header, F, _) e =
    let z = SameEncoding-octets y Universal Universal bit k (group_tag f) (group_tag g) contents w header h F e in
    (p, bs, ap (λ i. group p i bs) (group_tag-same f g z.tag))
IsGroup-encoding o y (explicit c p m b) k g w h (_, other, contents, header, F, _) e =
    let z = SameEncoding-octets y c Universal true k m (group_tag g) contents w header h F e in
    absurd (other z.class)
IsGroup-encoding o y (unknown c j p m v) k g w h (_, header, F, stays) e =
    let z = SameEncoding-octets y c Universal j k m (group_tag g) v w header h F e in
    elim stays [
      | inl known ↦ absurd (known.1.1 g z.tag)
      | inr other ↦ absurd (other.0 z.class)
    ]

-- the tree of an entry of class Universal with the tag of a group is that group
pub IsGroup-entry : (x : List ℕ) (b : Tree ℕ) (r : Entry) (g : GroupKind) → IsEntryOf x b r → r.class ≡ Universal →
    r.tag ≡ group_tag g → IsGroup g b
IsGroup-entry x b r g e class tag =
    let c = EntryContents-entry x b r e in
    let own = subst (λ z. Encoding c.octets z r.constructed c.tag c.contents r.header) class c.encoding in
    let two = subst (λ z. Encoding c.octets Universal r.constructed z c.contents r.header)
    (IsCapped-small c.tag r.tag (group_tag g) c.number tag (group_tag-small g)) own in
    IsGroup-encoding (tree_offset b) c.octets b r.constructed g c.contents r.header c.encoded two

-- the entry of a group is of class Universal, with the tag of the group
pub entry-group : (x : List ℕ) (r : Entry) (o : ℕ) (g : GroupKind) (items : Trees ℕ) →
    IsEntryOf x (group o g items) r → (r.class ≡ Universal) × (r.tag ≡ group_tag g)
entry-group x r o g items e =
    let c = EntryContents-entry x (group o g items) r e in
    let (_, bit, contents, header, F, _) = c.encoded in
    let z = SameEncoding-octets c.octets Universal r.class bit r.constructed (group_tag g) c.tag contents c.contents
    header r.header F c.encoding in
    let small = group_tag-small g in
    (sym z.class, c.number.0 (omega (arith, small, z.tag)) ∙ sym z.tag)

-- trees at indices, one map after another
pub map-indices : (ns : Nodes) (items : List (ℕ × Entry)) →
    trees_at ns (map (λ (item : ℕ × Entry). item.0) items)
    ≡ trees_of (map (λ (item : ℕ × Entry). tree_at ns item.0) items)
map-indices ns [] = refl
map-indices ns (item ∷ items) = ap (more_trees (tree_at ns item.0)) (map-indices ns items)

-- an entry was found at the index, which is thus one
pub slice_get-within : (es : List Entry) (k : ℕ) (r : Entry) → slice_get es k ≡ Some r → k < length es
slice_get-within [] k r e =
    let none : None ≡ Some r = e in
    absurd (cc)
slice_get-within (x ∷ es) zero r e = omega arith
slice_get-within (x ∷ es) (suc k) r e = omega (arith, slice_get-within es k r e)

-- no entry was found at the index, which is thus past the end
pub slice_get-past : (es : List Entry) (k : ℕ) → slice_get es k ≡ None → length es ≤ k
slice_get-past [] k e = omega arith
slice_get-past (x ∷ es) zero e =
    let none : Some x ≡ None = e in
    absurd (cc)
slice_get-past (x ∷ es) (suc k) e = omega (arith, slice_get-past es k e)

module _ (x : List ℕ) (es : List Entry) (ns : Nodes) (k : ℕ) (lent : ∥ IsOutline x es ∥₁) (d : IsStructure x ns) where
  -- the items of a group are the trees at their indices
  pub IsGroupOf-items : (g : GroupKind) (items : List (ℕ × Entry)) → k < length es → IsGroup g (tree_at ns k) →
      trees_of (map (λ (item : ℕ × Entry). tree_at ns item.0) items) ≡ nodes_trees (node_items (node_at ns k)) →
      IsGroupOf g (trees_at ns (map (λ (item : ℕ × Entry). item.0) items)) (tree_at ns k)
  IsGroupOf-items g items h (o, bs, is) trees =
      let held : nodes_trees (node_items (node_at ns k)) ≡ bs =
      subst (λ z. Holds x z (nodes_trees (node_items (node_at ns k)))) is (Holds-at x es ns k lent d h) in
      (o, is ∙ ap (group o g) (sym held ∙ sym trees ∙ sym (map-indices ns items)))

  -- past the end there is no group
  pub IsGroupOf-past : (g : GroupKind) (items : Trees ℕ) → length es ≤ k → IsGroupOf g items (tree_at ns k) → ⊥
  IsGroupOf-past g items past (o, is) =
      let none : leaf 0 null ≡ group o g items = sym (tree_at-past x es ns k lent d past) ∙ is in
      absurd (cc)

  -- what stands in explicit tagging is the tree at the first index
  pub first-inside : (items : List (ℕ × Entry)) (first : ℕ) (rest : List ℕ) (c : ASN1Class) (o n : ℕ) (b : Tree ℕ) →
      k < length es → tree_at ns k ≡ explicit c o n b →
      trees_of (map (λ (item : ℕ × Entry). tree_at ns item.0) items) ≡ nodes_trees (node_items (node_at ns k)) →
      map (λ (item : ℕ × Entry). item.0) items ≡ first ∷ rest → tree_at ns first ≡ b
  first-inside items first rest c o n b h is trees begin =
      let held : nodes_trees (node_items (node_at ns k)) ≡ more_trees b no_trees =
      subst (λ z. Holds x z (nodes_trees (node_items (node_at ns k)))) is (Holds-at x es ns k lent d h) in
      let all : more_trees (tree_at ns first) (trees_at ns rest) ≡ more_trees b no_trees =
      sym (ap (trees_at ns) begin) ∙ map-indices ns items ∙ trees ∙ held in
      cc

  -- something stands in explicit tagging
  pub some-inside : (items : List (ℕ × Entry)) (c : ASN1Class) (o n : ℕ) (b : Tree ℕ) →
      k < length es → tree_at ns k ≡ explicit c o n b →
      trees_of (map (λ (item : ℕ × Entry). tree_at ns item.0) items) ≡ nodes_trees (node_items (node_at ns k)) →
      map (λ (item : ℕ × Entry). item.0) items ≡ [] → ⊥
  some-inside items c o n b h is trees none =
      let held : nodes_trees (node_items (node_at ns k)) ≡ more_trees b no_trees =
      subst (λ z. Holds x z (nodes_trees (node_items (node_at ns k)))) is (Holds-at x es ns k lent d h) in
      let all : no_trees ≡ more_trees b no_trees =
      sym (ap (trees_at ns) none) ∙ map-indices ns items ∙ trees ∙ held in
      absurd (cc)

-- the tree of another entry is no group
pub IsGroupOf-other : (x : List ℕ) (b : Tree ℕ) (r : Entry) (g : GroupKind) (items : Trees ℕ) → IsEntryOf x b r →
    ((r.class ≡ Universal) × (r.tag ≡ group_tag g) → ⊥) → IsGroupOf g items b → ⊥
IsGroupOf-other x b r g items e other (o, is) =
    other (entry-group x r o g items (subst (λ z. IsEntryOf x z r) is e))

-- the fields of a tree that is a SEQUENCE
pub sequence-group : (b : Tree ℕ) (items : Trees ℕ) (fields : Trees ℕ → Option Found) → IsGroupOf Sequence items b →
    sequence fields b ≡ fields items
sequence-group b items fields (o, is) = ap (sequence fields) is

-- a tree that is no SEQUENCE has no fields
pub sequence-other : (b : Tree ℕ) (fields : Trees ℕ → Option Found) →
    ((items : Trees ℕ) → IsGroupOf Sequence items b → ⊥) → sequence fields b ≡ None
sequence-other (leaf p l) fields other = refl
sequence-other (group p Sequence bs) fields other = absurd (other bs (p, refl))
sequence-other (group p Set bs) fields other = refl
sequence-other (explicit c p m b) fields other = refl
sequence-other (unknown c k p m v) fields other = refl

-- the trees of a SEQUENCE OF
pub sequence_of-group : (is : Tree ℕ → Bool) (b : Tree ℕ) (items : Trees ℕ) → IsGroupOf Sequence items b →
    sequence_of is b ≡ each is items
sequence_of-group is b items (o, e) = ap (sequence_of is) e

pub sequence_of-other : (is : Tree ℕ → Bool) (b : Tree ℕ) →
    ((items : Trees ℕ) → IsGroupOf Sequence items b → ⊥) → sequence_of is b ≡ false
sequence_of-other is (leaf p l) other = refl
sequence_of-other is (group p Sequence bs) other = absurd (other bs (p, refl))
sequence_of-other is (group p Set bs) other = refl
sequence_of-other is (explicit c p m b) other = refl
sequence_of-other is (unknown c k p m v) other = refl

-- there are trees at indices if there are indices
some-index : (ns : Nodes) (ks : List ℕ) → some (trees_at ns ks) ≡ some_index ks
some-index ns [] = refl
some-index ns (k ∷ ks) = refl

-- the trees of a SEQUENCE OF one or more
pub sequence_of_some-group : (ns : Nodes) (is : Tree ℕ → Bool) (b : Tree ℕ) (ks : List ℕ) →
    IsGroupOf Sequence (trees_at ns ks) b →
    sequence_of_some is b ≡ some_index ks && each is (trees_at ns ks)
sequence_of_some-group ns is b ks (o, e) =
    ap (sequence_of_some is) e ∙ ap (λ z. z && each is (trees_at ns ks)) (some-index ns ks)

pub sequence_of_some-other : (is : Tree ℕ → Bool) (b : Tree ℕ) →
    ((items : Trees ℕ) → IsGroupOf Sequence items b → ⊥) → sequence_of_some is b ≡ false
sequence_of_some-other is (leaf p l) other = refl
sequence_of_some-other is (group p Sequence bs) other = absurd (other bs (p, refl))
sequence_of_some-other is (group p Set bs) other = refl
sequence_of_some-other is (explicit c p m b) other = refl
sequence_of_some-other is (unknown c k p m v) other = refl

-- the trees of a SET OF one or more
pub set_of_some-group : (ns : Nodes) (is : Tree ℕ → Bool) (b : Tree ℕ) (ks : List ℕ) →
    IsGroupOf Set (trees_at ns ks) b →
    set_of_some is b ≡ some_index ks && each is (trees_at ns ks)
set_of_some-group ns is b ks (o, e) =
    ap (set_of_some is) e ∙ ap (λ z. z && each is (trees_at ns ks)) (some-index ns ks)

pub set_of_some-other : (is : Tree ℕ → Bool) (b : Tree ℕ) →
    ((items : Trees ℕ) → IsGroupOf Set items b → ⊥) → set_of_some is b ≡ false
set_of_some-other is (leaf p l) other = refl
set_of_some-other is (group p Set bs) other = absurd (other bs (p, refl))
set_of_some-other is (group p Sequence bs) other = refl
set_of_some-other is (explicit c p m b) other = refl
set_of_some-other is (unknown c k p m v) other = refl

-- the tree of an entry of class context-specific that is explicit
pub explicit-entry : (x : List ℕ) (b : Tree ℕ) (r : Entry) (n : ℕ) → IsEntryOf x b r → n < 64 →
    r.class ≡ ContextSpecific → r.tag ≡ n → is_explicit b ≡ true →
    (o : ℕ) × (inner : Tree ℕ) × (b ≡ explicit ContextSpecific o n inner)
explicit-entry x (leaf p l) r n e small class tag is = absurd (false≢true is)
explicit-entry x (group p g bs) r n e small class tag is = absurd (false≢true is)
explicit-entry x (unknown c k p m v) r n e small class tag is = absurd (false≢true is)
explicit-entry x (explicit c p m b) r n e small class tag is =
    let s = EntryContents-entry x (explicit c p m b) r e in
    let (_, _, contents, header, F, _) = s.encoded in
    let z = SameEncoding-octets s.octets c r.class true r.constructed m s.tag contents s.contents header r.header F
    s.encoding in
    let number : m ≡ n = z.tag ∙ IsCapped-small s.tag r.tag n s.number tag small in
    (p, b, ap (λ i. explicit i p m b) (z.class ∙ class) ∙ ap (λ i. explicit ContextSpecific p i b) number)

-- the tree of another entry is in no explicit tagging with the tag
pub tagged-other : (x : List ℕ) (b : Tree ℕ) (r : Entry) (n : ℕ) (is : Tree ℕ → Bool) → IsEntryOf x b r → n < 64 →
    ((r.class ≡ ContextSpecific) × (r.tag ≡ n) → ⊥) → tagged n is b ≡ false
tagged-other x (leaf p l) r n is e small other = refl
tagged-other x (group p g bs) r n is e small other = refl
tagged-other x (explicit Universal p m b) r n is e small other = refl
tagged-other x (explicit Application p m b) r n is e small other = refl
tagged-other x (explicit Private p m b) r n is e small other = refl
tagged-other x (unknown c k p m v) r n is e small other = refl
tagged-other x (explicit ContextSpecific p m b) r n is e small other =
    let s = EntryContents-entry x (explicit ContextSpecific p m b) r e in
    let (_, _, contents, header, F, _) = s.encoded in
    let z = SameEncoding-octets s.octets ContextSpecific r.class true r.constructed m s.tag contents s.contents header
    r.header F s.encoding in
    ap (λ i. i && is b) (ne_eqb m n (λ same. other (
      sym z.class,
      s.number.0 (omega (arith, z.tag, same, small))
          ∙ sym z.tag ∙ same,
    )))

-- a tree that is not explicit is in no explicit tagging
pub tagged-not_explicit : (b : Tree ℕ) (n : ℕ) (is : Tree ℕ → Bool) → is_explicit b ≡ false → tagged n is b ≡ false
tagged-not_explicit (leaf p l) n is not = refl
tagged-not_explicit (group p g bs) n is not = refl
tagged-not_explicit (explicit c p m b) n is not = absurd (false≢true (sym not))
tagged-not_explicit (unknown c k p m v) n is not = refl

-- a tree in explicit tagging is of the type if what is inside is
pub tagged-inside : (b : Tree ℕ) (n : ℕ) (inner : Tree ℕ) (is : Tree ℕ → Bool) → IsTagged n inner b →
    tagged n is b ≡ is inner
tagged-inside b n inner is (o, e) = ap (tagged n is) e ∙ ap (λ z. z && is inner) (eq-eqb n n refl)

-- a tree whose encoding is primitive and of class context-specific
is_bits-encoding : (o : ℕ) (y : List ℕ) (b : Tree ℕ) (n : ℕ) (v : List ℕ) (h : ℕ) → Encodes o y b →
    Encoding y ContextSpecific false n v h → is_bits n b ≡ are_bits v
is_bits-encoding o y (leaf p l) n v h (_, bit, contents, header, F, _) e =
    let z = SameEncoding-octets y Universal ContextSpecific bit false (leaf_tag l) n contents v header h F e in
    absurd (universal-other z.class)
is_bits-encoding o y (group p g bs) n v h (_, bit, contents, header, F, _) e =
    let z = SameEncoding-octets y Universal ContextSpecific bit false (group_tag g) n contents v header h F e in
    absurd (universal-other z.class)
is_bits-encoding o y (explicit c p m b) n v h (_, _, contents, header, F, _) e =
    let z = SameEncoding-octets y c ContextSpecific true false m n contents v header h F e in
    absurd (false≢true (sym z.constructed))
is_bits-encoding o y (unknown c k p m w) n v h (_, header, F, _) e =
    let z = SameEncoding-octets y c ContextSpecific k false m n w v header h F e in
    ap (λ i. is_bits n (unknown i k p m w)) z.class ∙ ap (λ i. is_bits n (unknown ContextSpecific i p m w))
    z.constructed
    ∙ ap (λ i. i && are_bits w) (eq-eqb m n z.tag) ∙ ap are_bits z.contents

-- a primitive entry of class context-specific is of bits if its contents octets are such
pub is_bits-entry : (x : List ℕ) (b : Tree ℕ) (r : Entry) (n : ℕ) (w : List ℕ) → IsEntryOf x b r → n < 64 →
    r.class ≡ ContextSpecific → r.tag ≡ n → r.constructed ≡ false → HasContents x b w → is_bits n b ≡ are_bits w
is_bits-entry x b r n w e small class tag primitive has =
    let s = EntryContents-entry x b r e in
    let same : s.octets ≡ has.octets = EncodingAt-unique x (tree_offset b) s.octets has.octets
    (EncodingAt-encoded x b s.octets s.stands) (EncodingAt-encoded x b has.octets has.encoded) in
    let z = SameEncoding-octets has.octets r.class has.class r.constructed has.constructed s.tag has.tag s.contents w
    r.header has.header
    (subst (λ i. Encoding i r.class r.constructed s.tag s.contents r.header) same s.encoding) has.encoding in
    let one = subst (λ i. Encoding has.octets i has.constructed has.tag w has.header) (sym z.class ∙ class)
    has.encoding in
    let two = subst (λ i. Encoding has.octets ContextSpecific i has.tag w has.header) (sym z.constructed ∙ primitive)
    one in
    let three = subst (λ i. Encoding has.octets ContextSpecific false i w has.header)
    (sym z.tag ∙ IsCapped-small s.tag r.tag n s.number tag small) two in
    is_bits-encoding (tree_offset b) has.octets b n w has.header has.encoded.encoded three

-- the tree of another entry is of no bits
pub is_bits-other : (x : List ℕ) (b : Tree ℕ) (r : Entry) (n : ℕ) → IsEntryOf x b r → n < 64 →
    ((r.class ≡ ContextSpecific) × (r.tag ≡ n) × (r.constructed ≡ false) → ⊥) → is_bits n b ≡ false
is_bits-other x (leaf p l) r n e small other = refl
is_bits-other x (group p g bs) r n e small other = refl
is_bits-other x (explicit c p m b) r n e small other = refl
is_bits-other x (unknown Universal k p m v) r n e small other = refl
is_bits-other x (unknown Application k p m v) r n e small other = refl
is_bits-other x (unknown Private k p m v) r n e small other = refl
is_bits-other x (unknown ContextSpecific true p m v) r n e small other = refl
is_bits-other x (unknown ContextSpecific false p m v) r n e small other =
    let s = EntryContents-entry x (unknown ContextSpecific false p m v) r e in
    let (_, header, F, _) = s.encoded in
    let z = SameEncoding-octets s.octets ContextSpecific r.class false r.constructed m s.tag v s.contents header
    r.header
    F s.encoding in
    ap (λ i. i && are_bits v) (ne_eqb m n (λ same. other (
      sym z.class,
      s.number.0 (omega (arith, z.tag, same, small)) ∙ sym z.tag ∙ same,
      sym z.constructed,
    )))

-- the fields of a tree, by its items
pub sequence-found : (ns : Nodes) (k : ℕ) (found : Option Fields) →
    MatchOption found ((items : Trees ℕ) → IsGroupOf Sequence items (tree_at ns k) → ⊥)
    (λ items. IsGroupOf Sequence (trees_at ns (left items)) (tree_at ns k)) →
    MatchOption found ((fields : Trees ℕ → Option Found) → sequence fields (tree_at ns k) ≡ None)
    (λ items. (fields : Trees ℕ → Option Found) → sequence fields (tree_at ns k) ≡ fields (trees_at ns (left items)))
sequence-found ns k None h = λ fields. sequence-other (tree_at ns k) fields h
sequence-found ns k (Some items) h = λ fields. sequence-group (tree_at ns k) (trees_at ns (left items)) fields h

-- a test of class and tag number tells whether a tree is a leaf
pub is_leaf-tested : (x : List ℕ) (b : Tree ℕ) (r : Entry) (n : ℕ) (told : Bool) → IsEntryOf x b r → n < 64 →
    is_leaf_tag n ≡ true → (told ≡ true ↔ ((r.class ≡ Universal) × (r.tag ≡ n))) → told ≡ is_leaf n b
is_leaf-tested x b r n true e small t (to, from) =
    let (class, tag) = to refl in
    sym (is_leaf-entry x b r n e small t class tag)
is_leaf-tested x b r n false e small t (to, from) =
    sym (is_leaf-other x b r n e small (λ both. false≢true (from both)))

-- what was taken from inside explicit tagging
pub tagged-taken : (x : List ℕ) (es : List Entry) (ns : Nodes) (k n : ℕ) → ∥ IsOutline x es ∥₁ → IsStructure x ns →
    k < length es → (o : ℕ) × (inner : Tree ℕ) × (tree_at ns k ≡ explicit ContextSpecific o n inner) →
    (items : List (ℕ × Entry)) →
    trees_of (map (λ (item : ℕ × Entry). tree_at ns item.0) items) ≡ nodes_trees (node_items (node_at ns k)) →
    (old new : List ℕ) → old ≡ map (λ (item : ℕ × Entry). item.0) items → (found : Option ℕ) →
    MatchOption found ((old ≡ []) × (new ≡ [])) (λ j. old ≡ j ∷ new) →
    MatchOption found ((is : Tree ℕ → Bool) → tagged n is (tree_at ns k) ≡ false)
    (λ j. IsTagged n (tree_at ns j) (tree_at ns k))
tagged-taken x es ns k n lent d h (o, inner, e) items trees old new begin None (none, _) =
    absurd (some-inside x es ns k lent d items ContextSpecific o n inner h e trees (sym begin ∙ none))
tagged-taken x es ns k n lent d h (o, inner, e) items trees old new begin (Some j) first = (
  o,
  e ∙ ap (explicit ContextSpecific o n)
      (sym (first-inside x es ns k lent d items j new ContextSpecific o n inner h e trees (sym begin ∙ first))),
)

-- the tree of an entry that is not of a constructed encoding with the tag is no SET in implicit tagging
pub tagged_set_of-other : (x : List ℕ) (b : Tree ℕ) (r : Entry) (n : ℕ) (held : Tree ℕ → Trees ℕ)
    (is : Tree ℕ → Bool) → IsEntryOf x b r → n < 64 →
    ((r.class ≡ ContextSpecific) × (r.tag ≡ n) × (r.constructed ≡ true) → ⊥) → tagged_set_of held n is b ≡ false
tagged_set_of-other x (leaf p l) r n held is e small other = refl
tagged_set_of-other x (group p g bs) r n held is e small other = refl
tagged_set_of-other x (explicit Universal p m b) r n held is e small other = refl
tagged_set_of-other x (explicit Application p m b) r n held is e small other = refl
tagged_set_of-other x (explicit Private p m b) r n held is e small other = refl
tagged_set_of-other x (unknown Universal k p m v) r n held is e small other = refl
tagged_set_of-other x (unknown Application k p m v) r n held is e small other = refl
tagged_set_of-other x (unknown Private k p m v) r n held is e small other = refl
tagged_set_of-other x (unknown ContextSpecific false p m v) r n held is e small other = refl
tagged_set_of-other x (explicit ContextSpecific p m b) r n held is e small other =
    let s = EntryContents-entry x (explicit ContextSpecific p m b) r e in
    let (_, _, contents, header, F, _) = s.encoded in
    let z = SameEncoding-octets s.octets ContextSpecific r.class true r.constructed m s.tag contents s.contents header
    r.header F s.encoding in
    ap (λ i. i && is b) (ne_eqb m n (λ same. other (
      sym z.class,
      s.number.0 (omega (arith, z.tag, same, small)) ∙ sym z.tag ∙ same,
      sym z.constructed,
    )))
tagged_set_of-other x (unknown ContextSpecific true p m v) r n held is e small other =
    let whole : Tree ℕ = unknown ContextSpecific true p m v in
    let s = EntryContents-entry x whole r e in
    let (_, header, F, _) = s.encoded in
    let z = SameEncoding-octets s.octets ContextSpecific r.class true r.constructed m s.tag v s.contents header
    r.header F s.encoding in
    ap (λ i. i && are_each is v (held whole)) (ne_eqb m n (λ same. other (
      sym z.class,
      s.number.0 (omega (arith, z.tag, same, small)) ∙ sym z.tag ∙ same,
      sym z.constructed,
    )))

-- one tree of which all are of a type
are_each-one : (is : Tree ℕ → Bool) (v : List ℕ) (b : Tree ℕ) → are_each is v (more_trees b no_trees) ≡ is b
are_each-one is v b = and_true (is b)
  where
    and_true : (z : Bool) → z && true ≡ z
    and_true true = refl
    and_true false = refl

-- a tree whose encoding is constructed and of class context-specific, with what it holds
tagged_set_of-encoding : (x : List ℕ) (o : ℕ) (y : List ℕ) (b : Tree ℕ) (n : ℕ) (v : List ℕ) (h : ℕ)
    (held : Tree ℕ → Trees ℕ) (is : Tree ℕ → Bool) → Encodes o y b → Encoding y ContextSpecific true n v h →
    Holds x b (held b) → tagged_set_of held n is b ≡ are_each is v (held b)
tagged_set_of-encoding x o y (leaf p l) n v h held is (_, bit, contents, header, F, _) e holds =
    let z = SameEncoding-octets y Universal ContextSpecific bit true (leaf_tag l) n contents v header h F e in
    absurd (universal-other z.class)
tagged_set_of-encoding x o y (group p g bs) n v h held is (_, bit, contents, header, F, _) e holds =
    let z = SameEncoding-octets y Universal ContextSpecific bit true (group_tag g) n contents v header h F e in
    absurd (universal-other z.class)
tagged_set_of-encoding x o y (explicit c p m b) n v h held is (_, _, contents, header, F, _) e holds =
    let z = SameEncoding-octets y c ContextSpecific true true m n contents v header h F e in
    ap (λ i. tagged_set_of held n is (explicit i p m b)) z.class
    ∙ ap (λ i. i && is b) (eq-eqb m n z.tag)
    ∙ sym (ap (are_each is v) holds ∙ are_each-one is v b)
tagged_set_of-encoding x o y (unknown c k p m w) n v h held is (_, header, F, _) e holds =
    let z = SameEncoding-octets y c ContextSpecific k true m n w v header h F e in
    let tree : unknown c k p m w ≡ unknown ContextSpecific true p m v =
    ap (λ i. unknown i k p m w) z.class ∙ ap (λ i. unknown ContextSpecific i p m w) z.constructed
    ∙ ap (λ i. unknown ContextSpecific true p m i) z.contents in
    ap (tagged_set_of held n is) tree
    ∙ ap (λ i. i && are_each is v (held (unknown ContextSpecific true p m v))) (eq-eqb m n z.tag)
    ∙ ap (λ i. are_each is v (held i)) (sym tree)

-- the tree of a constructed entry with the tag is a SET in implicit tagging if what it holds is of the type
pub tagged_set_of-entry : (x : List ℕ) (b : Tree ℕ) (r : Entry) (n : ℕ) (held : Tree ℕ → Trees ℕ)
    (is : Tree ℕ → Bool) (w : List ℕ) → IsEntryOf x b r → n < 64 → r.class ≡ ContextSpecific → r.tag ≡ n →
    r.constructed ≡ true → HasContents x b w → Holds x b (held b) →
    tagged_set_of held n is b ≡ are_each is w (held b)
tagged_set_of-entry x b r n held is w e small class tag constructed has holds =
    let s = EntryContents-entry x b r e in
    let same : s.octets ≡ has.octets = EncodingAt-unique x (tree_offset b) s.octets has.octets
    (EncodingAt-encoded x b s.octets s.stands) (EncodingAt-encoded x b has.octets has.encoded) in
    let z = SameEncoding-octets has.octets r.class has.class r.constructed has.constructed s.tag has.tag s.contents w
    r.header has.header
    (subst (λ i. Encoding i r.class r.constructed s.tag s.contents r.header) same s.encoding) has.encoding in
    let one = subst (λ i. Encoding has.octets i has.constructed has.tag w has.header) (sym z.class ∙ class)
    has.encoding in
    let two = subst (λ i. Encoding has.octets ContextSpecific i has.tag w has.header) (sym z.constructed ∙ constructed)
    one in
    let three = subst (λ i. Encoding has.octets ContextSpecific true i w has.header)
    (sym z.tag ∙ IsCapped-small s.tag r.tag n s.number tag small) two in
    tagged_set_of-encoding x (tree_offset b) has.octets b n w has.header held is has.encoded.encoded three holds

-- what a SET in implicit tagging holds, by the indices of its items
module _ (x : List ℕ) (es : List Entry) (ns : Nodes) (k : ℕ) (lent : ∥ IsOutline x es ∥₁) (d : IsStructure x ns)
    (held : Tree ℕ → Trees ℕ) (are : AreHeld ns held) where
  -- the trees at these indices
  pub held-items : (items : List (ℕ × Entry)) →
      trees_of (map (λ (item : ℕ × Entry). tree_at ns item.0) items) ≡ nodes_trees (node_items (node_at ns k)) →
      held (tree_at ns k) ≡ trees_at ns (map (λ (item : ℕ × Entry). item.0) items)
  held-items items trees = are k ∙ sym trees ∙ sym (map-indices ns items)

  -- a tree holds what is held
  pub Holds-held : k < length es → Holds x (tree_at ns k) (held (tree_at ns k))
  Holds-held h = subst (Holds x (tree_at ns k)) (sym (are k)) (Holds-at x es ns k lent d h)

-- trees at some indices that contents octets hold
pub are_each-some : (ns : Nodes) (is : Tree ℕ → Bool) (w : List ℕ) (ks : List ℕ) → some_index ks ≡ true →
    are_each is w (trees_at ns ks) ≡ each is (trees_at ns ks)
are_each-some ns is w [] e = absurd (false≢true e)
are_each-some ns is w (k ∷ ks) e = refl

-- contents octets that are no encodings hold no trees
pub are_each-octets : (ns : Nodes) (is : Tree ℕ → Bool) (w : List ℕ) (ks : List ℕ) → some_index ks ≡ false →
    (length w == 0) ≡ false → are_each is w (trees_at ns ks) ≡ false
are_each-octets ns is w [] e some = ap (λ z. z && true) some
are_each-octets ns is w (k ∷ ks) e some = absurd (false≢true (sym e))

-- no contents octets hold no trees
pub are_each-none : (ns : Nodes) (is : Tree ℕ → Bool) (w : List ℕ) (ks : List ℕ) → some_index ks ≡ false →
    (length w == 0) ≡ true → are_each is w (trees_at ns ks) ≡ each is (trees_at ns ks)
are_each-none ns is w [] e none = ap (λ z. z && true) none
are_each-none ns is w (k ∷ ks) e none = absurd (false≢true (sym e))
