-- The first block in tree order that is not read back, for the functions of `faithful`.
use Rattle.std.proofs.Common.{◌≡◌, ℕ, zero, suc, ◌+◌, ◌<◌, ◌≤◌, List, [], ◌∷◌, ◌++◌, Bor, Option, Some, None, length, map, take, drop, get_or, refl, sym, ap, ◌∙◌, subst, arith, inl, inr, append-nil, length-take}
use Rattle.std.proofs.lemmas.List.Elements.{All-append, All-cons, All-head, All-more, All-nil, All-tail, All-weaker}
use Rattle.std.proofs.lemmas.List.{take_all}
use Rattle.std.proofs.Math.Seq.{split_at}
use Rattle.std.specs.Prelude.{All, MatchOption}
use Rattle.asn1_blocks.specs.declared.block.ASN1Block.{ASN1Block}
use Rattle.asn1_blocks.specs.BlockParts.{all_in_order, in_order}
use Rattle.asn1_blocks.specs.Contents.{IsFaithfulLeaf}
use Rattle.asn1_blocks.specs.Faithful.{AreFaithful, IsFaithful}
use Rattle.asn1_blocks.specs.Inner.FaithfulWalk.{IsFaithfulAlone}
use Rattle.asn1_blocks.specs.Tree.{Leaf, Tree, Trees, bit_string, boolean, explicit, generalized_time, group, integer, leaf, more_trees, no_trees, null, object_identifier, octet_string, text, unknown, utc_time}
use Rattle.asn1_blocks.specs.View.{view}
use Rattle.asn1_writing.specs.Inner.Failing.{tree_failure}
use Rattle.asn1_writing.specs.Unfaithful.{FailsBy, FailsFirst, leaf_failure, unknown_failure}
use Rattle.asn1_writing.specs.declared.faithful.FaithfulErr.TheVariants.{NotFaithful}
use Rattle.asn1_writing.specs.declared.faithful.UnfaithfulErr.{UnfaithfulErr}
use Rattle.asn1_writing.specs.declared.faithful.UnfaithfulErr.TheVariants.{ExplicitUniversal}
use Rattle.asn1_writing.proofs.Totality.{Universal-or_other}

-- a leaf of a kind that cannot fail is faithful
IsFaithfulLeaf-cannot_fail : (l : Leaf) → leaf_failure l ≡ None → IsFaithfulLeaf l
IsFaithfulLeaf-cannot_fail (boolean b) e = tt
IsFaithfulLeaf-cannot_fail (integer n) e = tt
IsFaithfulLeaf-cannot_fail (bit_string n v) e = absurd cc
IsFaithfulLeaf-cannot_fail (octet_string v) e = tt
IsFaithfulLeaf-cannot_fail null e = tt
IsFaithfulLeaf-cannot_fail (object_identifier ns) e = absurd cc
IsFaithfulLeaf-cannot_fail (text kind cs) e = absurd cc
IsFaithfulLeaf-cannot_fail (utc_time m) e = absurd cc
IsFaithfulLeaf-cannot_fail (generalized_time m) e = absurd cc

-- a tree that is not faithful alone fails in what its kind can fail in
pub FailsBy-not_faithful : (t : Tree ℕ) (r : Option UnfaithfulErr) → (IsFaithfulAlone t → ⊥) → r ≡ tree_failure t
    → MatchOption r (IsFaithfulAlone t) (FailsBy t)
FailsBy-not_faithful (leaf o l) None unfaithful e = IsFaithfulLeaf-cannot_fail l (sym e)
FailsBy-not_faithful (leaf o l) (Some reason) unfaithful e = (unfaithful, sym e)
FailsBy-not_faithful (group o g bs) None unfaithful e = tt
FailsBy-not_faithful (group o g bs) (Some reason) unfaithful e = absurd cc
FailsBy-not_faithful (explicit class o tag b) None unfaithful e = absurd cc
FailsBy-not_faithful (explicit class o tag b) (Some reason) unfaithful e =
    let is : reason ≡ ExplicitUniversal = cc in
    elim (Universal-or_other class) [ inl u ↦ (u, is) | inr ne ↦ absurd (unfaithful ne) ]
FailsBy-not_faithful (unknown class k o tag contents) None unfaithful e = absurd cc
FailsBy-not_faithful (unknown class k o tag contents) (Some reason) unfaithful e =
    let is : reason ≡ unknown_failure class = cc in
    (unfaithful, is)

-- a tree that is faithful alone does not fail
pub IsFaithfulAlone-no_failure : (t : Tree ℕ) → IsFaithfulAlone t → (reason : UnfaithfulErr) → FailsBy t reason → ⊥
IsFaithfulAlone-no_failure (leaf o l) f reason h = h.0 f
IsFaithfulAlone-no_failure (group o g bs) f reason h = h
IsFaithfulAlone-no_failure (explicit class o tag b) f reason h = f h.0
IsFaithfulAlone-no_failure (unknown class k o tag contents) f reason h = h.0 f

-- a tree fails for one reason
pub FailsBy-unique : (t : Tree ℕ) (a b : UnfaithfulErr) → FailsBy t a → FailsBy t b → a ≡ b
FailsBy-unique (leaf o l) a b h k =
    let e : ◌≡◌ {A = Option UnfaithfulErr} (Some a) (Some b) = sym h.1 ∙ k.1 in
    cc
FailsBy-unique (group o g bs) a b h k = absurd h
FailsBy-unique (explicit class o tag t) a b h k = h.1 ∙ sym k.1
FailsBy-unique (unknown class c o tag contents) a b h k = h.1 ∙ sym k.1

-- the tree fails for no reason
abbrev pub DoesNotFail : Tree ℕ → Type 0
DoesNotFail t = (other : UnfaithfulErr) → FailsBy t other → ⊥

-- trees that are faithful alone do not fail
pub All-does_not_fail : (ts : List (Tree ℕ)) → All IsFaithfulAlone ts → All DoesNotFail ts
All-does_not_fail ts h = All-weaker IsFaithfulAlone DoesNotFail IsFaithfulAlone-no_failure ts h

-- what holds of all trees of two joined lists holds of all trees of the first list
All-append_left : (P : Tree ℕ → Type 0) (xs ys : List (Tree ℕ)) → All P (xs ++ ys) → All P xs
All-append_left P [] ys h = All-nil P
All-append_left P (x ∷ xs) ys h =
    All-cons P x xs (All-head P x (xs ++ ys) h) (All-append_left P xs ys (All-tail P x (xs ++ ys) h))

-- what holds of all trees of two joined lists holds of all trees of the second list
All-append_right : (P : Tree ℕ → Type 0) (xs ys : List (Tree ℕ)) → All P (xs ++ ys) → All P ys
All-append_right P [] ys h = h
All-append_right P (x ∷ xs) ys h = All-append_right P xs ys (All-tail P x (xs ++ ys) h)

mutual
  -- a tree is faithful if each block of it is faithful alone
  pub IsFaithful-in_order : (t : Tree ℕ) → All IsFaithfulAlone (in_order t) → IsFaithful t
  IsFaithful-in_order (leaf o l) h = All-head IsFaithfulAlone (leaf o l) [] h
  IsFaithful-in_order (group o g bs) h =
      AreFaithful-all_in_order bs (All-tail IsFaithfulAlone (group o g bs) (all_in_order bs) h)
  IsFaithful-in_order (explicit class o tag b) h = (
    All-head IsFaithfulAlone (explicit class o tag b) (in_order b) h,
    IsFaithful-in_order b (All-tail IsFaithfulAlone (explicit class o tag b) (in_order b) h),
  )
  IsFaithful-in_order (unknown class k o tag contents) h =
      All-head IsFaithfulAlone (unknown class k o tag contents) [] h

  -- trees are faithful if each block of them is faithful alone
  AreFaithful-all_in_order : (bs : Trees ℕ) → All IsFaithfulAlone (all_in_order bs) → AreFaithful bs
  AreFaithful-all_in_order no_trees h = tt
  AreFaithful-all_in_order (more_trees b bs) h = (
    IsFaithful-in_order b (All-append_left IsFaithfulAlone (in_order b) (all_in_order bs) h),
    AreFaithful-all_in_order bs (All-append_right IsFaithfulAlone (in_order b) (all_in_order bs) h),
  )

mutual
  -- each tree in a faithful one is faithful alone
  pub All-in_order : (t : Tree ℕ) → IsFaithful t → All IsFaithfulAlone (in_order t)
  All-in_order (leaf o l) f = All-cons IsFaithfulAlone (leaf o l) [] f (All-nil IsFaithfulAlone)
  All-in_order (group o g bs) f =
      All-cons IsFaithfulAlone (group o g bs) (all_in_order bs) tt (All-all_in_order bs f)
  All-in_order (explicit class o tag b) f =
      All-cons IsFaithfulAlone (explicit class o tag b) (in_order b) f.0 (All-in_order b f.1)
  All-in_order (unknown class k o tag contents) f =
      All-cons IsFaithfulAlone (unknown class k o tag contents) [] f (All-nil IsFaithfulAlone)

  -- each tree in faithful trees is faithful alone
  All-all_in_order : (bs : Trees ℕ) → AreFaithful bs → All IsFaithfulAlone (all_in_order bs)
  All-all_in_order no_trees f = All-nil IsFaithfulAlone
  All-all_in_order (more_trees b bs) f =
      All-append IsFaithfulAlone (in_order b) (all_in_order bs) (All-in_order b f.0) (All-all_in_order bs f.1)

-- a faithful tree has no first failure
pub IsFaithful-no_failure : (t : Tree ℕ) (index : ℕ) (reason : UnfaithfulErr) → IsFaithful t →
    FailsFirst t index reason →
    ⊥
IsFaithful-no_failure t index reason f h =
    let all = subst (All DoesNotFail) h.order (All-does_not_fail (in_order t) (All-in_order t f)) in
    All-head DoesNotFail h.failing h.after
    (All-append_right DoesNotFail h.before (h.failing ∷ h.after) all) reason h.fails

-- a list is split at one place alone into trees that do not fail and then one that fails
FailsBy-same_place :
    (xs ys : List (Tree ℕ)) (s t : Tree ℕ) (after rest : List (Tree ℕ)) (a b : UnfaithfulErr) →
    xs ++ s ∷ after ≡ ys ++ t ∷ rest → All DoesNotFail xs → All DoesNotFail ys → FailsBy s a → FailsBy t b →
    (length xs ≡ length ys) × (a ≡ b)
FailsBy-same_place [] [] s t after rest a b e n m f g =
    let same : s ≡ t = cc in
    (refl, FailsBy-unique t a b (subst (λ z. FailsBy z a) same f) g)
FailsBy-same_place [] (y ∷ ys) s t after rest a b e n m f g =
    let same : s ≡ y = cc in
    absurd (All-head DoesNotFail y ys m a (subst (λ z. FailsBy z a) same f))
FailsBy-same_place (x ∷ xs) [] s t after rest a b e n m f g =
    let same : t ≡ x = cc in
    absurd (All-head DoesNotFail x xs n b (subst (λ z. FailsBy z b) same g))
FailsBy-same_place (x ∷ xs) (y ∷ ys) s t after rest a b e n m f g =
    let tails : xs ++ s ∷ after ≡ ys ++ t ∷ rest = cc in
    let h =
    FailsBy-same_place xs ys s t after rest a b tails (All-tail DoesNotFail x xs n) (All-tail DoesNotFail y ys m) f g in
    (ap suc h.0, h.1)

-- a tree has one first failure
pub FailsFirst-unique : (t : Tree ℕ) (i j : ℕ) (a b : UnfaithfulErr) → FailsFirst t i a → FailsFirst t j b →
    (i ≡ j) × (a ≡ b)
FailsFirst-unique t i j a b h k =
    let s =
    FailsBy-same_place h.before k.before h.failing k.failing h.after k.after a b (sym h.order ∙ k.order) h.none_before
    k.none_before h.fails k.fails in
    (h.index_is ∙ (s.0 ∙ sym k.index_is), s.1)

-- where the trees up to an index are faithful alone and the tree there fails, it is the first that fails
pub FailsFirst-at :
    (t d : Tree ℕ) (order : List (Tree ℕ)) (index : ℕ) (reason : UnfaithfulErr) → order ≡ in_order t →
    index < length order →
    All IsFaithfulAlone (take index order) → FailsBy (get_or order index d) reason → FailsFirst t index reason
FailsFirst-at t d order index reason e l h f = record {
  before = take index order;
  failing = get_or order index d;
  after = drop (suc index) order;
  order = sym e ∙ split_at order index d l;
  index_is = omega (arith, l, length-take index order);
  none_before = All-does_not_fail (take index order) h;
  fails = f;
}

-- The list of all blocks, as the loop goes over it.

-- the trees of blocks that are lent
abbrev pub views_of : List (Bor ASN1Block) → List (Tree ℕ)
views_of order = map (λ (b : Bor ASN1Block). view b.now) order

-- lent blocks have as many trees as there are blocks
length-views_of : (order : List (Bor ASN1Block)) → length (views_of order) ≡ length order
length-views_of [] = refl
length-views_of (b ∷ order) = ap suc (length-views_of order)

-- the tree at an index of the trees of lent blocks is the tree of the block at this index
get_or-views_of : (order : List (Bor ASN1Block)) (i : ℕ) (d : Bor ASN1Block)
    → get_or (views_of order) i (view d.now) ≡ view (get_or order i d).now
get_or-views_of [] i d = refl
get_or-views_of (b ∷ order) zero d = refl
get_or-views_of (b ∷ order) (suc i) d = get_or-views_of order i d

-- the tree of a block that stands in a list is the one at its place
view-get_or : (order : List (Bor ASN1Block)) (i : ℕ) (b : Bor ASN1Block) → b ≡ get_or order i b
    → view b.now ≡ get_or (views_of order) i (view b.now)
view-get_or order i b is = ap (λ (z : Bor ASN1Block). view z.now) is ∙ sym (get_or-views_of order i b)

-- where the blocks up to a place and the one there are faithful alone, the blocks up to the next place are
pub All-take_next :
    (order : List (Bor ASN1Block)) (i : ℕ) (b : Bor ASN1Block) → i < length order → b ≡ get_or order i b →
    All IsFaithfulAlone (take i (views_of order)) → IsFaithfulAlone (view b.now) →
    All IsFaithfulAlone (take (i + 1) (views_of order))
All-take_next order i b l is h f =
    All-more IsFaithfulAlone (views_of order) i (view b.now) (omega (arith, l, length-views_of order)) h
    (subst IsFaithfulAlone (view-get_or order i b is) f)

-- the list of all blocks of one tree has the trees of this tree in order
views_of-one_tree : (t : Tree ℕ) (order : List (Bor ASN1Block)) →
    views_of order ≡ all_in_order (more_trees t no_trees) →
    views_of order ≡ in_order t
views_of-one_tree t order e = e ∙ append-nil (in_order t)

-- the block that was found is the first that fails
pub FailsFirst-found :
    (t : Tree ℕ) (order : List (Bor ASN1Block)) (i : ℕ) (b : Bor ASN1Block) (reason : UnfaithfulErr) →
    views_of order ≡ all_in_order (more_trees t no_trees) → i < length order → b ≡ get_or order i b →
    All IsFaithfulAlone (take i (views_of order)) → FailsBy (view b.now) reason → FailsFirst t i reason
FailsFirst-found t order i b reason e l is h f =
    FailsFirst-at t (view b.now) (views_of order) i reason (views_of-one_tree t order e) (omega (
      arith,
      l,
      length-views_of order,
    )) h
    (subst (λ z. FailsBy z reason) (view-get_or order i b is) f)

-- a tree is faithful if each of its blocks was found to be
pub IsFaithful-none_found :
    (t : Tree ℕ) (order : List (Bor ASN1Block)) (i : ℕ) → views_of order ≡ all_in_order (more_trees t no_trees) →
    length order ≤ i →
    All IsFaithfulAlone (take i (views_of order)) → IsFaithful t
IsFaithful-none_found t order i e l h =
    let all : All IsFaithfulAlone (views_of order) =
    subst (All IsFaithfulAlone) (take_all i (views_of order) (omega (arith, l, length-views_of order))) h in
    IsFaithful-in_order t (subst (All IsFaithfulAlone) (views_of-one_tree t order e) all)

-- the error that names the first failure is determined
pub NotFaithful-unique : (t : Tree ℕ) (i j : ℕ) (a b : UnfaithfulErr) → FailsFirst t i a → FailsFirst t j b →
    NotFaithful i a ≡ NotFaithful j b
NotFaithful-unique t i j a b h k =
    let one = FailsFirst-unique t i j a b h k in
    ap (λ n. NotFaithful n a) one.0 ∙ ap (NotFaithful j) one.1
