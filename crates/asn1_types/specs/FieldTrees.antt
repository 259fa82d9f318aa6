-- The trees of fields: of one that may be missing, of one with a default, and of four at once.
use Rattle.std.specs.Prelude.{Bool, Option, Some, None, if◌then◌else◌}
use Rattle.asn1_blocks.specs.Tree.{Tree, Trees, more_trees}
use Rattle.asn1_types.specs.declared.wide.Fields4.{Fields4}

-- of the field, if it is there, and of those after it
abbrev pub optional_trees : {A B : Type 0} → (A → Tree (Unit {0})) → (B → Trees (Unit {0})) → Option A → B
    → Trees (Unit {0})
optional_trees f g None y = g y
optional_trees f g (Some x) y = more_trees (f x) (g y)

-- what is written of a value that has a default: nothing, if it is the default
abbrev pub unless_default : {A : Type 0} → (A → Bool) → A → Option A
unless_default is_default x = if is_default x then None else Some x

-- of four fields, and of those after them
abbrev pub four_trees : {A B C D R : Type 0} → (A → Tree (Unit {0})) → (B → Tree (Unit {0}))
    → (C → Tree (Unit {0})) → (D → Tree (Unit {0})) → (R → Trees (Unit {0}))
    → Fields4 A B C D R → Trees (Unit {0})
four_trees f g h k r x =
    more_trees (f x.first) (more_trees (g x.second) (more_trees (h x.third) (more_trees (k x.fourth) (r x.rest))))
