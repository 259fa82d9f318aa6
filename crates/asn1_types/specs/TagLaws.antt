-- A value under an explicit tag.
use Rattle.std.specs.Prelude.{◌≡◌, ℕ}
use Rattle.std.proofs.Common.{ap}
use Rattle.asn1_blocks.specs.Tree.{Tree}
use Rattle.asn1_types.specs.Laws.{explicit_tree, explicit-inner}
use Rattle.asn1_types.specs.declared.tagged.Explicit.{Explicit}

pub explicit-distinct : {A : Type 0} {N : ℕ} (n : ℕ) (f : A → Tree (Unit {0}))
    (d : (x y : A) → f x ≡ f y → x ≡ y)
    (x y : Explicit A N) → explicit_tree n (f x.value) ≡ explicit_tree n (f y.value) → x ≡ y
explicit-distinct {A = A} {N = N} n f d x y e =
    let with_value : A → Explicit A N = λ t. record { value = t } in
    ap with_value (d x.value y.value (explicit-inner n (f x.value) (f y.value) e))
