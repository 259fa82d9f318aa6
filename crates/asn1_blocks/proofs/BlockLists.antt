-- Lists of blocks and their trees, for all that copies, compares or writes blocks.
use Rattle.std.proofs.Common.{◌≡◌, ℕ, zero, suc, List, [], ◌∷◌, ◌++◌, length, get_or, ◌<◌, refl, sym, ap, ◌∙◌, arith}
use Rattle.asn1_blocks.specs.declared.block.ASN1Block.{ASN1Block}
use Rattle.asn1_blocks.specs.Tree.{Trees, no_trees, more_trees, shape, shapes}
use Rattle.asn1_blocks.specs.View.{view, views}

-- how many trees there are
abbrev pub tree_count : {O : Type 0} → Trees O → ℕ
tree_count no_trees = 0
tree_count (more_trees b bs) = suc (tree_count bs)

-- trees are as many without their offsets as with them
tree_count-shapes : {O : Type 0} (bs : Trees O) → tree_count (shapes bs) ≡ tree_count bs
tree_count-shapes no_trees = refl
tree_count-shapes (more_trees b bs) = ap suc (tree_count-shapes bs)

-- a list of blocks has as many trees as it has blocks
pub tree_count-views : (bs : List ASN1Block) → tree_count (views bs) ≡ length bs
tree_count-views [] = refl
tree_count-views (b ∷ bs) = ap suc (tree_count-views bs)

-- lists of the same shapes are of one length
pub length-same_shapes : (xs ys : List ASN1Block) → shapes (views xs) ≡ shapes (views ys) → length xs ≡ length ys
length-same_shapes xs ys e =
    sym (tree_count-shapes (views xs) ∙ tree_count-views xs) ∙ ap tree_count e
    ∙ (tree_count-shapes (views ys) ∙ tree_count-views ys)

-- lists of the same shapes have the same shape at each place
pub shape-get_or : (xs ys : List ASN1Block) (x y : ASN1Block) (i : ℕ) → shapes (views xs) ≡ shapes (views ys) →
    i < length xs
    → shape (view (get_or xs i x)) ≡ shape (view (get_or ys i y))
shape-get_or [] ys x y i e h = absurd (omega (arith, h))
shape-get_or (a ∷ xs) [] x y i e h = absurd (omega (arith, length-same_shapes (a ∷ xs) [] e))
shape-get_or (a ∷ xs) (b ∷ ys) x y zero e h = cc
shape-get_or (a ∷ xs) (b ∷ ys) x y (suc i) e h =
    let r : shapes (views xs) ≡ shapes (views ys) = cc in
    shape-get_or xs ys x y i r (omega (arith, h))

-- lists of the same shapes, each with one more block of one shape at the end, have the same shapes
pub shapes-append_last : (xs ys : List ASN1Block) (x y : ASN1Block) → shapes (views xs) ≡ shapes (views ys) →
    shape (view x) ≡ shape (view y)
    → shapes (views (xs ++ x ∷ [])) ≡ shapes (views (ys ++ y ∷ []))
shapes-append_last [] [] x y e f = cc
shapes-append_last [] (b ∷ ys) x y e f = absurd (omega (arith, length-same_shapes [] (b ∷ ys) e))
shapes-append_last (a ∷ xs) [] x y e f = absurd (omega (arith, length-same_shapes (a ∷ xs) [] e))
shapes-append_last (a ∷ xs) (b ∷ ys) x y e f =
    let h : shape (view a) ≡ shape (view b) = cc in
    let r : shapes (views xs) ≡ shapes (views ys) = cc in
    let s = shapes-append_last xs ys x y r f in
    cc
