-- A SEQUENCE without two items is no point, for `convert::point::point_of`.
use Rattle.std.proofs.Common.{◌≡◌, ◌≢◌, ℕ, List, [], ◌∷◌, length, refl, sym, ◌∙◌}
use Rattle.asn1_blocks.specs.declared.block.ASN1Block.{ASN1Block}
use Rattle.asn1_blocks.specs.declared.block.GroupKind.TheVariants.{Sequence}
use Rattle.simple_asn1.specs.declared.convert.point.Point.{Point}
use Rattle.simple_asn1.specs.PointTrees.{point_tree}
use Rattle.asn1_blocks.specs.Tree.{Tree, group, shape, shapes}
use Rattle.asn1_blocks.specs.View.{views}

-- a SEQUENCE without two items is no point
pub point_tree-not_two_items : (t : Tree ℕ) (p : Point) (items : List ASN1Block) → length items ≢ 2 →
    shape t ≡ group tt Sequence (shapes (views items)) → shape t ≢ point_tree p
point_tree-not_two_items t p [] h e f = let g = sym e ∙ f in cc
point_tree-not_two_items t p (a ∷ []) h e f = let g = sym e ∙ f in cc
point_tree-not_two_items t p (a ∷ b ∷ []) h e f = h refl
point_tree-not_two_items t p (a ∷ b ∷ c ∷ items) h e f = let g = sym e ∙ f in cc
