-- Defaults: only one value is the default.
use Rattle.std.specs.Prelude.{◌≡◌, ◌==◌, ℕ, ℤ, pos, negsuc, Bool, true, false, not}
use Rattle.std.proofs.Common.{refl, sym, ap, ◌∙◌}
use Rattle.std.proofs.lemmas.Bool.{eqb-true}
use Rattle.asn1_types.specs.declared.tagged.Explicit.{Explicit}

pub false-only : (x y : Bool) → not x ≡ true → not y ≡ true → x ≡ y
false-only true true p q = refl
false-only true false p q = cc
false-only false true p q = cc
false-only false false p q = refl

-- whether a number is this natural number
abbrev pub is_natural : ℕ → ℤ → Bool
is_natural n (pos m) = m == n
is_natural n (negsuc m) = false

pub natural-only : (n : ℕ) (x y : ℤ) → is_natural n x ≡ true → is_natural n y ≡ true → x ≡ y
natural-only n (pos k) (pos m) p q = ap pos (eqb-true k n p ∙ sym (eqb-true m n q))
natural-only n (pos k) (negsuc m) p q = cc
natural-only n (negsuc k) (pos m) p q = cc
natural-only n (negsuc k) (negsuc m) p q = cc

-- under an explicit tag
pub explicit-only : {A : Type 0} {N : ℕ} (d : A → Bool)
    (only : (x y : A) → d x ≡ true → d y ≡ true → x ≡ y)
    (x y : Explicit A N) → d x.value ≡ true → d y.value ≡ true → x ≡ y
explicit-only {A = A} {N = N} d only x y p q =
    let with_value : A → Explicit A N = λ t. record { value = t } in
    ap with_value (only x.value y.value p q)
