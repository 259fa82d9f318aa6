-- The algorithm of a signed triple, by its tree alone.
use Rattle.std.specs.Prelude.{◌≡◌, ℕ, List}
use Rattle.asn1_blocks.specs.declared.block.GroupKind.TheVariants.{Sequence}
use Rattle.asn1_blocks.specs.Tree.{Tree, Trees, leaf, group, object_identifier, more_trees}

-- the tree is a SEQUENCE whose first item is an OBJECT IDENTIFIER, of this algorithm
abbrev pub IsAlgorithm : Tree ℕ → List ℕ → Type 0
IsAlgorithm b algorithm =
    (o : ℕ) × (i : ℕ) × (rest : Trees ℕ)
    × (b ≡ group o Sequence (more_trees (leaf i (object_identifier algorithm)) rest))
