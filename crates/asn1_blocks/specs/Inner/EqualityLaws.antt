-- `==` of blocks is an equivalence, which holds exactly where the trees are equal but for their offsets.
use Rattle.std.specs.Prelude.{◌≡◌, ◌==◌, ◌&&◌, true}
use Rattle.std.specs.Bool.{Decides, one_answer}
use Rattle.std.specs.Cmp.{IsEquivalence, IsPartialEquivalence, partial_equiv_from_equiv}
use Rattle.std.proofs.Common.{sym, ap, ◌∙◌, refl, arith}
use Rattle.std.proofs.lemmas.Bool.{and_parts, and_from, eqb-true}
use Rattle.std.proofs.lemmas.Slice.Eq.{bytes_eq-Decides}
use Rattle.std.specs.Str.{bytes_eq}
use Rattle.asn1_headers.specs.declared.header.ASN1Class.{ASN1Class}
use Rattle.asn1_headers.specs.declared.header.ASN1Class.TheVariants.{Universal, Application, ContextSpecific, Private}
use Rattle.asn1_blocks.specs.declared.block.ASN1Block.{ASN1Block}
use Rattle.asn1_blocks.specs.declared.block.GroupKind.{GroupKind}
use Rattle.asn1_blocks.specs.declared.block.GroupKind.TheVariants.{Sequence, Set}
use Rattle.asn1_headers.specs.Header.{class_number, constructed_bit}
use Rattle.asn1_blocks.specs.Contents.{group_tag}
use Rattle.asn1_blocks.specs.Tree.{Tree, Trees, leaf, group, explicit, unknown, no_trees, more_trees, shape, shapes}
use Rattle.asn1_blocks.specs.View.{view}
use Rattle.asn1_blocks.specs.Inner.LeafEquality.{eqb-same, constructed_bit-injective, same_leaf-equal, same_leaf-refl}
use Rattle.asn1_blocks.specs.Inner.Equality.{same_tree, same_trees, same_block}

class_number-injective : (c d : ASN1Class) → class_number c ≡ class_number d → c ≡ d
class_number-injective Universal Universal e = refl
class_number-injective Application Application e = refl
class_number-injective ContextSpecific ContextSpecific e = refl
class_number-injective Private Private e = refl
class_number-injective Universal Application e = absurd (omega (arith, e))
class_number-injective Universal ContextSpecific e = absurd (omega (arith, e))
class_number-injective Universal Private e = absurd (omega (arith, e))
class_number-injective Application Universal e = absurd (omega (arith, e))
class_number-injective Application ContextSpecific e = absurd (omega (arith, e))
class_number-injective Application Private e = absurd (omega (arith, e))
class_number-injective ContextSpecific Universal e = absurd (omega (arith, e))
class_number-injective ContextSpecific Application e = absurd (omega (arith, e))
class_number-injective ContextSpecific Private e = absurd (omega (arith, e))
class_number-injective Private Universal e = absurd (omega (arith, e))
class_number-injective Private Application e = absurd (omega (arith, e))
class_number-injective Private ContextSpecific e = absurd (omega (arith, e))

-- groups of one tag are of one kind
pub group_tag-injective : (g h : GroupKind) → group_tag g ≡ group_tag h → g ≡ h
group_tag-injective Sequence Sequence e = refl
group_tag-injective Set Set e = refl
group_tag-injective Sequence Set e = absurd (omega (arith, e))
group_tag-injective Set Sequence e = absurd (omega (arith, e))

mutual
  pub same_tree-same_shape : {O P : Type 0} (s : Tree O) (t : Tree P) → same_tree s t ≡ true → shape s ≡ shape t
  same_tree-same_shape (leaf o l) (leaf p m) e = ap (leaf tt) (same_leaf-equal l m e)
  same_tree-same_shape (leaf o l) (group p h cs) e = cc
  same_tree-same_shape (leaf o l) (explicit d p n b) e = cc
  same_tree-same_shape (leaf o l) (unknown d k p n w) e = cc
  same_tree-same_shape (group o g bs) (leaf p m) e = cc
  same_tree-same_shape (group o g bs) (group p h cs) e =
      let q = and_parts (group_tag g == group_tag h) (same_trees bs cs) e in
      let a : g ≡ h = group_tag-injective g h (eqb-true (group_tag g) (group_tag h) q.0) in
      let b : shapes bs ≡ shapes cs = same_trees-same_shapes bs cs q.1 in
      cc
  same_tree-same_shape (group o g bs) (explicit d p n b) e = cc
  same_tree-same_shape (group o g bs) (unknown d k p n w) e = cc
  same_tree-same_shape (explicit c o m a) (leaf p l) e = cc
  same_tree-same_shape (explicit c o m a) (group p h cs) e = cc
  same_tree-same_shape (explicit c o m a) (explicit d p n b) e =
      let q = and_parts ((class_number c == class_number d) && (m == n)) (same_tree a b) e in
      let r = and_parts (class_number c == class_number d) (m == n) q.0 in
      let f : c ≡ d = class_number-injective c d (eqb-true (class_number c) (class_number d) r.0) in
      let g : m ≡ n = eqb-true m n r.1 in
      let h : shape a ≡ shape b = same_tree-same_shape a b q.1 in
      cc
  same_tree-same_shape (explicit c o m a) (unknown d k p n w) e = cc
  same_tree-same_shape (unknown c j o m v) (leaf p l) e = cc
  same_tree-same_shape (unknown c j o m v) (group p h cs) e = cc
  same_tree-same_shape (unknown c j o m v) (explicit d p n b) e = cc
  same_tree-same_shape (unknown c j o m v) (unknown d k p n w) e =
      let class = class_number c == class_number d in
      let bit = constructed_bit j == constructed_bit k in
      let q = and_parts (class && bit && (m == n)) (bytes_eq v w) e in
      let r = and_parts (class && bit) (m == n) q.0 in
      let s = and_parts class bit r.0 in
      let f : c ≡ d = class_number-injective c d (eqb-true (class_number c) (class_number d) s.0) in
      let i : j ≡ k = constructed_bit-injective j k (eqb-true (constructed_bit j) (constructed_bit k) s.1) in
      let g : m ≡ n = eqb-true m n r.1 in
      let h : v ≡ w = (bytes_eq-Decides v w).0 q.1 in
      cc

  pub same_trees-same_shapes : {O P : Type 0} (s : Trees O) (t : Trees P) → same_trees s t ≡ true
      → shapes s ≡ shapes t
  same_trees-same_shapes no_trees no_trees e = refl
  same_trees-same_shapes no_trees (more_trees b cs) e = cc
  same_trees-same_shapes (more_trees a bs) no_trees e = cc
  same_trees-same_shapes (more_trees a bs) (more_trees b cs) e =
      let q = and_parts (same_tree a b) (same_trees bs cs) e in
      let f : shape a ≡ shape b = same_tree-same_shape a b q.0 in
      let g : shapes bs ≡ shapes cs = same_trees-same_shapes bs cs q.1 in
      cc

mutual
  -- a tree is the same as its shape, so as each tree of that shape
  same_tree-shape : {O : Type 0} (t : Tree O) → same_tree t (shape t) ≡ true
  same_tree-shape (leaf o l) = same_leaf-refl l
  same_tree-shape (group o g bs) =
      and_from _ _ (eqb-same (group_tag g) (group_tag g) refl) (same_trees-shapes bs)
  same_tree-shape (explicit c o n b) =
      let class = eqb-same (class_number c) (class_number c) refl in
      and_from _ _ (and_from _ _ class (eqb-same n n refl)) (same_tree-shape b)
  same_tree-shape (unknown c k o n v) =
      let class = eqb-same (class_number c) (class_number c) refl in
      let bit = eqb-same (constructed_bit k) (constructed_bit k) refl in
      let tag = eqb-same n n refl in
      and_from _ _ (and_from _ _ (and_from _ _ class bit) tag) ((bytes_eq-Decides v v).1 refl)

  same_trees-shapes : {O : Type 0} (ts : Trees O) → same_trees ts (shapes ts) ≡ true
  same_trees-shapes no_trees = refl
  same_trees-shapes (more_trees b bs) = and_from _ _ (same_tree-shape b) (same_trees-shapes bs)

mutual
  -- the offsets of the second tree play no part
  same_tree-shape_right : {O P : Type 0} (s : Tree O) (t : Tree P) → same_tree s (shape t) ≡ same_tree s t
  same_tree-shape_right (leaf o l) (leaf p m) = refl
  same_tree-shape_right (leaf o l) (group p h cs) = refl
  same_tree-shape_right (leaf o l) (explicit d p n b) = refl
  same_tree-shape_right (leaf o l) (unknown d k p n w) = refl
  same_tree-shape_right (group o g bs) (leaf p m) = refl
  same_tree-shape_right (group o g bs) (group p h cs) =
      ap (λ z. (group_tag g == group_tag h) && z) (same_trees-shapes_right bs cs)
  same_tree-shape_right (group o g bs) (explicit d p n b) = refl
  same_tree-shape_right (group o g bs) (unknown d k p n w) = refl
  same_tree-shape_right (explicit c o m a) (leaf p l) = refl
  same_tree-shape_right (explicit c o m a) (group p h cs) = refl
  same_tree-shape_right (explicit c o m a) (explicit d p n b) =
      ap (λ z. (class_number c == class_number d) && (m == n) && z) (same_tree-shape_right a b)
  same_tree-shape_right (explicit c o m a) (unknown d k p n w) = refl
  same_tree-shape_right (unknown c j o m v) (leaf p l) = refl
  same_tree-shape_right (unknown c j o m v) (group p h cs) = refl
  same_tree-shape_right (unknown c j o m v) (explicit d p n b) = refl
  same_tree-shape_right (unknown c j o m v) (unknown d k p n w) = refl

  same_trees-shapes_right : {O P : Type 0} (s : Trees O) (t : Trees P) → same_trees s (shapes t) ≡ same_trees s t
  same_trees-shapes_right no_trees no_trees = refl
  same_trees-shapes_right no_trees (more_trees b cs) = refl
  same_trees-shapes_right (more_trees a bs) no_trees = refl
  same_trees-shapes_right (more_trees a bs) (more_trees b cs) =
      let p = same_tree-shape_right a b in
      let q = same_trees-shapes_right bs cs in
      ap (λ z. z && same_trees bs (shapes cs)) p ∙ ap (λ z. same_tree a b && z) q

-- two trees are the same exactly where their shapes are equal
pub same_tree-decides : {O P : Type 0} (s : Tree O) (t : Tree P)
    → Decides (same_tree s t) (shape s ≡ shape t)
same_tree-decides s t = (
  same_tree-same_shape s t,
  λ e. sym (same_tree-shape_right s t) ∙ (ap (same_tree s) (sym e) ∙ same_tree-shape s),
)

same_block-decides : (a b : ASN1Block) → Decides (same_block a b) (shape (view a) ≡ shape (view b))
same_block-decides a b = same_tree-decides (view a) (view b)

-- `==` of blocks is an equivalence
pub IsEquivalence-same_block : IsEquivalence same_block
IsEquivalence-same_block = record {
  refl = λ a. (same_block-decides a a).1 refl;
  symm = λ a b. one_answer (same_block a b) (same_block b a) (same_block-decides a b)
      (λ e. sym ((same_block-decides b a).0 e), λ e. (same_block-decides b a).1 (sym e));
  congr = λ a b c e.
      let f = (same_block-decides a b).0 e in
      one_answer (same_block a c) (same_block b c) (same_block-decides a c)
      (λ g. f ∙ (same_block-decides b c).0 g, λ g. (same_block-decides b c).1 (sym f ∙ g));
}

pub same_block_laws : IsPartialEquivalence same_block
same_block_laws = partial_equiv_from_equiv IsEquivalence-same_block
