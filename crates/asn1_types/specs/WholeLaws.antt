-- A value is read back from its tree.
use Rattle.std.specs.Prelude.{◌≡◌, ℕ}
use Rattle.std.proofs.Common.{sym, ap, ◌∙◌, refl}
use Rattle.asn1_blocks.specs.Tree.{Tree, Trees, no_trees, more_trees, shapes}
use Rattle.asn1_types.specs.declared.whole.Whole.{Whole}
use Rattle.asn1_types.specs.Laws.{first-same, rest-same}

none-left : (rest : Trees ℕ) → shapes rest ≡ no_trees → rest ≡ no_trees
none-left no_trees e = refl
none-left (more_trees b bs) e = cc

value-read_back : {A : Type 0} (f : A → Tree (Unit {0})) (d : (x y : A) → f x ≡ f y → x ≡ y) (x y : A)
    (bs rest : Trees ℕ) → shapes bs ≡ more_trees (f x) no_trees → shapes bs ≡ more_trees (f y) (shapes rest)
    → (y ≡ x) × (rest ≡ no_trees)
value-read_back f d x y bs rest e r =
    let s : more_trees (f y) (shapes rest) ≡ more_trees (f x) no_trees = sym r ∙ e in
    let p : y ≡ x = d y x (first-same (f y) (f x) (shapes rest) no_trees s) in
    (p, none-left rest (rest-same (f y) (f x) (shapes rest) no_trees s))

pub whole-read_back : {A : Type 0} (f : A → Tree (Unit {0})) (d : (x y : A) → f x ≡ f y → x ≡ y)
    (x y : Whole A)
    (bs rest : Trees ℕ) → shapes bs ≡ more_trees (f x.value) no_trees
    → shapes bs ≡ more_trees (f y.value) (shapes rest) → (y ≡ x) × (rest ≡ no_trees)
whole-read_back {A = A} f d x y bs rest e r =
    let p = value-read_back f d x.value y.value bs rest e r in
    let with_value : A → Whole A = λ t. record { value = t } in
    (ap with_value p.0, p.1)
