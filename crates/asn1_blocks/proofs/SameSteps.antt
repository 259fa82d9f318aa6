-- Steps of the comparison of two lists of blocks, for `block::same`.
use Rattle.std.proofs.Common.{◌≡◌, ℕ, ◌≤◌, ◌<◌, zero, suc, List, [], ◌∷◌, ◌++◌, length, length-append, get_or, refl, sym, ap, ◌∙◌, arith}
use Rattle.asn1_blocks.specs.declared.block.ASN1Block.{ASN1Block}
use Rattle.asn1_blocks.specs.HeadersBegun.{blocks_in, all_blocks_in}
use Rattle.asn1_blocks.specs.Tree.{Tree, leaf, group, explicit, unknown, shape, shapes}
use Rattle.asn1_blocks.specs.Inner.TreeOrder.{inside, own_shape}
use Rattle.asn1_blocks.specs.View.{view, views}
use Rattle.asn1_blocks.proofs.BlockLists.{length-same_shapes, shapes-append_last}
use Rattle.asn1_blocks.proofs.TreeOrders.{blocks_in-inside}
use Rattle.asn1_blocks.proofs.Unnesting.{all_blocks_in-append_last, blocks_in-some}

-- trees of one shape are the same beside the trees that they hold
own_shape-same_shape : (a b : Tree ℕ) → shape a ≡ shape b → own_shape a ≡ own_shape b
own_shape-same_shape (leaf o l) (leaf p m) e = e
own_shape-same_shape (group o g bs) (group p h cs) e = cc
own_shape-same_shape (explicit c o m b) (explicit d p n f) e = cc
own_shape-same_shape (unknown c k o m v) (unknown d j p n w) e = e
own_shape-same_shape (leaf o l) (group p h cs) e = cc
own_shape-same_shape (leaf o l) (explicit d p n f) e = cc
own_shape-same_shape (leaf o l) (unknown d j p n w) e = cc
own_shape-same_shape (group o g bs) (leaf p m) e = cc
own_shape-same_shape (group o g bs) (explicit d p n f) e = cc
own_shape-same_shape (group o g bs) (unknown d j p n w) e = cc
own_shape-same_shape (explicit c o m b) (leaf p l) e = cc
own_shape-same_shape (explicit c o m b) (group p h cs) e = cc
own_shape-same_shape (explicit c o m b) (unknown d j p n w) e = cc
own_shape-same_shape (unknown c k o m v) (leaf p l) e = cc
own_shape-same_shape (unknown c k o m v) (group p h cs) e = cc
own_shape-same_shape (unknown c k o m v) (explicit d p n f) e = cc

-- trees of one shape hold trees of the same shapes
inside-same_shape : (a b : Tree ℕ) → shape a ≡ shape b → shapes (inside a) ≡ shapes (inside b)
inside-same_shape (leaf o l) (leaf p m) e = refl
inside-same_shape (group o g bs) (group p h cs) e = cc
inside-same_shape (explicit c o m b) (explicit d p n f) e = cc
inside-same_shape (unknown c k o m v) (unknown d j p n w) e = refl
inside-same_shape (leaf o l) (group p h cs) e = cc
inside-same_shape (leaf o l) (explicit d p n f) e = cc
inside-same_shape (leaf o l) (unknown d j p n w) e = cc
inside-same_shape (group o g bs) (leaf p m) e = cc
inside-same_shape (group o g bs) (explicit d p n f) e = cc
inside-same_shape (group o g bs) (unknown d j p n w) e = cc
inside-same_shape (explicit c o m b) (leaf p l) e = cc
inside-same_shape (explicit c o m b) (group p h cs) e = cc
inside-same_shape (explicit c o m b) (unknown d j p n w) e = cc
inside-same_shape (unknown c k o m v) (leaf p l) e = cc
inside-same_shape (unknown c k o m v) (group p h cs) e = cc
inside-same_shape (unknown c k o m v) (explicit d p n f) e = cc

-- trees that are the same beside what they hold, and hold the same shapes, are of one shape
shape-own_and_inside : (a b : Tree ℕ) → own_shape a ≡ own_shape b → shapes (inside a) ≡ shapes (inside b) →
    shape a ≡ shape b
shape-own_and_inside (leaf o l) (leaf p m) e i = e
shape-own_and_inside (group o g bs) (group p h cs) e i = cc
shape-own_and_inside (explicit c o m b) (explicit d p n f) e i = cc
shape-own_and_inside (unknown c k o m v) (unknown d j p n w) e i = e
shape-own_and_inside (leaf o l) (group p h cs) e i = cc
shape-own_and_inside (leaf o l) (explicit d p n f) e i = cc
shape-own_and_inside (leaf o l) (unknown d j p n w) e i = cc
shape-own_and_inside (group o g bs) (leaf p m) e i = cc
shape-own_and_inside (group o g bs) (explicit d p n f) e i = cc
shape-own_and_inside (group o g bs) (unknown d j p n w) e i = cc
shape-own_and_inside (explicit c o m b) (leaf p l) e i = cc
shape-own_and_inside (explicit c o m b) (group p h cs) e i = cc
shape-own_and_inside (explicit c o m b) (unknown d j p n w) e i = cc
shape-own_and_inside (unknown c k o m v) (leaf p l) e i = cc
shape-own_and_inside (unknown c k o m v) (group p h cs) e i = cc
shape-own_and_inside (unknown c k o m v) (explicit d p n f) e i = cc

-- two lists of blocks are equal but for offsets
abbrev pub AreSame : List ASN1Block → List ASN1Block → Type 0
AreSame xs ys = shapes (views xs) ≡ shapes (views ys)

-- two lists of one length that are the same are the same before their last blocks, and in these blocks
AreSame-split_last : (xs ys : List ASN1Block) (x y : ASN1Block) → length xs ≡ length ys →
    AreSame (xs ++ x ∷ []) (ys ++ y ∷ [])
    → AreSame xs ys × (shape (view x) ≡ shape (view y))
AreSame-split_last [] [] x y n e = (refl, cc)
AreSame-split_last [] (b ∷ ys) x y n e = absurd (omega (arith, n))
AreSame-split_last (a ∷ xs) [] x y n e = absurd (omega (arith, n))
AreSame-split_last (a ∷ xs) (b ∷ ys) x y n e =
    let f : AreSame (xs ++ x ∷ []) (ys ++ y ∷ []) = cc in
    let g : shape (view a) ≡ shape (view b) = cc in
    let h = AreSame-split_last xs ys x y (omega (arith, n)) f in
    let k = h.0 in
    (cc, h.1)

-- two lists are the same exactly if they are so before their last blocks, and these are, with the blocks inside them
pub record AreSameByLasts (v w xs ys : List ASN1Block) (x y : ASN1Block) : Type 0 where
  pub fronts : AreSame v w → AreSame xs ys
  pub own : AreSame v w → own_shape (view x) ≡ own_shape (view y)
  pub held : AreSame v w → shapes (inside (view x)) ≡ shapes (inside (view y))
  pub whole : AreSame xs ys → own_shape (view x) ≡ own_shape (view y) →
      shapes (inside (view x)) ≡ shapes (inside (view y)) → AreSame v w

-- how lists compare is decided by those before their last blocks, and these blocks
pub AreSame-by_lasts : (v w xs ys : List ASN1Block) (x y : ASN1Block) → v ≡ xs ++ x ∷ [] → w ≡ ys ++ y ∷ [] →
    AreSameByLasts v w xs ys x y
AreSame-by_lasts v w xs ys x y e f =
    let p = ap (λ z. shapes (views z)) e in
    let q = ap (λ z. shapes (views z)) f in
    let n : AreSame v w → length xs ≡ length ys = λ s. omega (
      arith,
      length-same_shapes (xs ++ x ∷ []) (ys ++ y ∷ []) (sym p ∙ (s ∙ q)),
      length-append xs (x ∷ []),
      length-append ys (y ∷ []),
    ) in
    let t : AreSame v w →
    AreSame xs ys × (shape (view x) ≡ shape (view y)) = λ s. AreSame-split_last xs ys x y (n s) (sym p ∙ (s ∙ q)) in
    record {
      fronts = λ s. (t s).0;
      own = λ s. own_shape-same_shape (view x) (view y) (t s).1;
      held = λ s. inside-same_shape (view x) (view y) (t s).1;
      whole = λ s o h. p ∙ (shapes-append_last xs ys x y s (shape-own_and_inside (view x) (view y) o h) ∙ sym q);
    }

-- there are fewer blocks before the last one, and fewer inside it, than in the whole list
pub all_blocks_in-last_lt : (v xs : List ASN1Block) (x : ASN1Block) → v ≡ xs ++ x ∷ [] →
    (all_blocks_in (views xs) < all_blocks_in (views v))
    × (all_blocks_in (inside (view x)) < all_blocks_in (views v))
all_blocks_in-last_lt v xs x e =
    let n = ap (λ z. all_blocks_in (views z)) e ∙ all_blocks_in-append_last xs x in
    (omega (arith, n, blocks_in-some (view x)), omega (arith, n, blocks_in-inside (view x)))

-- no more blocks are in one of a list than in all
pub blocks_in-get_or_le : (xs : List ASN1Block) (i : ℕ) (x : ASN1Block) → i < length xs → x ≡ get_or xs i x →
    blocks_in (view x) ≤ all_blocks_in (views xs)
blocks_in-get_or_le [] i x h e = absurd (omega (arith, h))
blocks_in-get_or_le (a ∷ xs) zero x h e = omega (arith, ap (λ z. blocks_in (view z)) e)
blocks_in-get_or_le (a ∷ xs) (suc i) x h e = omega (arith, blocks_in-get_or_le xs i x (omega (arith, h)) e)
