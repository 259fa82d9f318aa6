-- A point is read back from its trees.
use Rattle.std.specs.Prelude.{◌≡◌, ℕ, ℤ}
use Rattle.std.proofs.Common.{sym, ap, ◌∙◌}
use Rattle.simple_asn1.specs.declared.convert.point.Point.{Point}
use Rattle.asn1_blocks.specs.Tree.{Trees, no_trees, more_trees, shape, shapes}
use Rattle.simple_asn1.specs.PointTrees.{point_tree, point_trees, BeginsWithPoint}

-- points of the same tree are equal
pub point_tree-injective : (p q : Point) → point_tree p ≡ point_tree q → p ≡ q
point_tree-injective p q e =
    let x : p.x ≡ q.x = cc in
    let y : p.y ≡ q.y = cc in
    let with_x : ℤ → Point = λ z. record { x = z; y = p.y } in
    let with_y : ℤ → Point = λ z. record { x = q.x; y = z } in
    ap with_x x ∙ ap with_y y

pub point_read_back : (x y : Point) (bs rest : Trees ℕ) → shapes bs ≡ point_trees x →
    BeginsWithPoint bs y rest
    → (y ≡ x) × (rest ≡ no_trees)
point_read_back x y no_trees rest e r = absurd r
point_read_back x y (more_trees b no_trees) rest e (is_point, _, _, none) =
    let f : shape b ≡ point_tree x = cc in
    (point_tree-injective y x (sym is_point ∙ f), none)
point_read_back x y (more_trees b (more_trees c cs)) rest e r = cc
