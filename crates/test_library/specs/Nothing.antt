-- What is read of no trees, as a type that has one value.
use Rattle.std.specs.Prelude.{◌≡◌, ℕ}
use Rattle.simple_asn1.specs.Tree.{Trees, no_trees, more_trees, shapes}

module _ {T : Type 0} (one : (x y : T) → y ≡ x) where
  pub nothing_read_back : (x y : T) (bs rest : Trees ℕ) → shapes bs ≡ no_trees → rest ≡ bs → (y ≡ x)
      × (rest ≡ no_trees)
  nothing_read_back x y no_trees rest e r = (one x y, r)
  nothing_read_back x y (more_trees b bs) rest e r = cc
