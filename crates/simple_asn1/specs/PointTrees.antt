-- A point as blocks: one SEQUENCE of two INTEGERs.
use Rattle.std.specs.Prelude.{◌≡◌, ℕ, FitsSigned}
use Rattle.std.specs.Int.{w64}
use Rattle.asn1_blocks.specs.declared.block.GroupKind.TheVariants.{Sequence}
use Rattle.simple_asn1.specs.declared.convert.point.Point.{Point}
use Rattle.asn1_blocks.specs.Tree.{Tree, Trees, leaf, group, integer, no_trees, more_trees, shape}

abbrev pub point_tree : Point → Tree (Unit {0})
point_tree p =
    group tt Sequence (more_trees (leaf tt (integer p.x)) (more_trees (leaf tt (integer p.y)) no_trees))

abbrev pub point_trees : Point → Trees (Unit {0})
point_trees p = more_trees (point_tree p) no_trees

-- the first tree is the point's, whose coordinates fit an i64; these are the trees after it
abbrev pub BeginsWithPoint : Trees ℕ → Point → Trees ℕ → Type 0
BeginsWithPoint no_trees p rest = ⊥
BeginsWithPoint (more_trees b bs) p rest =
    (shape b ≡ point_tree p) × FitsSigned w64 p.x × FitsSigned w64 p.y × (rest ≡ bs)
