-- The trees of blocks as a list, and the trees of last fields.
use Rattle.std.proofs.Common.{◌≡◌, ℕ, zero, suc, ◌<◌, List, [], ◌∷◌, map, get_or, length, refl, ap, arith}
use Rattle.asn1_blocks.specs.Tree.{Tree, trees_of, more_trees, shape, shapes}
use Rattle.asn1_blocks.specs.View.{view, views}
use Rattle.asn1_blocks.specs.declared.block.ASN1Block.{ASN1Block}
use Rattle.asn1_types.specs.Laws.{first-same, rest-same}

abbrev pub shape_of : ASN1Block → Tree (Unit {0})
shape_of b = shape (view b)

pub shapes-views : (bs : List ASN1Block) → shapes (views bs) ≡ trees_of (map shape_of bs)
shapes-views [] = refl
shapes-views (b ∷ bs) = ap (λ ts. more_trees (shape_of b) ts) (shapes-views bs)

-- where blocks are values, so is each of them
pub value-at : {A : Type 0} (f : A → Tree (Unit {0})) (bs : List ASN1Block) (xs : List A) (i : ℕ) (d : ASN1Block)
    → shapes (views bs) ≡ trees_of (map f xs) → i < length bs → (x : A) × (shape_of (get_or bs i d) ≡ f x)
value-at f [] xs i d e l = absurd (omega (arith, l))
value-at f (b ∷ bs) [] i d e l = cc
value-at f (b ∷ bs) (x ∷ xs) zero d e l = (x, first-same (shape_of b) (f x) _ _ e)
value-at f (b ∷ bs) (x ∷ xs) (suc i) d e l =
    let k : i < length bs = omega (arith, l) in
    value-at f bs xs i d (rest-same (shape_of b) (f x) _ _ e) k
