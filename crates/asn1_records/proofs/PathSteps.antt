-- Values one after another, and numbers that fit, for `number::int64_of`, `departures` and `putting`.
use Rattle.std.proofs.Common.{◌≡◌, ℕ, zero, suc, ◌<◌, ◌≤◌, ◌^◌, ◌++◌, inl, inr, List, [], ◌∷◌, ℤ, pos, negsuc, None, Some, drop, get_or, length, map, set, take, refl, sym, ap, ◌∙◌, arith, FitsSigned, OkIff, Result, Ok, Err}
use Rattle.std.specs.Int.{w64, w128}
use Rattle.std.specs.Result.{result_ok}
use Rattle.std.proofs.lemmas.Bool.{cases_lt, cond_above, cond_below}
use Rattle.asn1_records.specs.Paths.{fitting}

-- setting the next value puts one value more
pub set-next_value : {A B : Type 0} (f : A → B) (xs : List A) (room : List B) (k : ℕ) (d : A) → k < length xs →
    length xs ≤ length room
    → set (map f (take k xs) ++ drop k room) k (f (get_or xs k d)) ≡ map f (take (suc k) xs) ++ drop (suc k) room
set-next_value f [] room k d h l = absurd (omega (arith, h))
set-next_value f (x ∷ xs) [] k d h l = absurd (omega (arith, l))
set-next_value f (x ∷ xs) (r ∷ room) zero d h l = refl
set-next_value f (x ∷ xs) (r ∷ room) (suc k) d h l =
    ap (λ z. f x ∷ z) (set-next_value f xs room k d (omega (arith, h)) (omega (arith, l)))

-- a number that does not fit is none that fits
pub fitting-none : (z : ℤ) → (FitsSigned w64 z → ⊥) → None ≡ fitting z
fitting-none (pos n) not = elim (cases_lt n (2 ^ 63)) [
  | inl below ↦ absurd (not (record { sfits = below }))
  | inr above ↦ cond_above n (2 ^ 63) (Some (pos n)) None None above refl
]
fitting-none (negsuc n) not = elim (cases_lt n (2 ^ 63)) [
  | inl below ↦ absurd (not (record { sfits = below }))
  | inr above ↦ cond_above n (2 ^ 63) (Some (negsuc n)) None None above refl
]

-- what a conversion gives of a number is the number, if it fits
pub fitting-converted : {E : Type 0} (r : Result ℤ E) (z : ℤ) → OkIff r (FitsSigned w64 z) z → result_ok r ≡ fitting z
fitting-converted (Ok v) (pos n) (fits, is) = ap Some is ∙ cond_below n (2 ^ 63) (Some (pos n)) None fits.sfits
fitting-converted (Ok v) (negsuc n) (fits, is) = ap Some is ∙ cond_below n (2 ^ 63) (Some (negsuc n)) None fits.sfits
fitting-converted (Err e) z not = fitting-none z not

-- a number that fits into 64 bits fits into 128
pub FitsSigned-wider : (z : ℤ) → FitsSigned w64 z → FitsSigned w128 z
FitsSigned-wider (pos n) fits = record { sfits = omega (arith, fits.sfits) }
FitsSigned-wider (negsuc n) fits = record { sfits = omega (arith, fits.sfits) }

-- two values that are equal as options are equal
Some-injective : {A : Type 0} {x y : A} → Some x ≡ Some y → x ≡ y
Some-injective e = cc

-- an option of a value is not none
Some-not_none : {A : Type 0} {x : A} → Some x ≡ None → ⊥
Some-not_none e = cc

-- the number that was found to fit is the number
pub fitting-found : (z v : ℤ) → Some v ≡ fitting z → z ≡ v
fitting-found (pos n) v e = elim (cases_lt n (2 ^ 63)) [
  | inl below ↦ Some-injective (sym (e ∙ sym (cond_below n (2 ^ 63) (Some (pos n)) None below)))
  | inr above ↦ absurd (Some-not_none (e ∙ sym (cond_above n (2 ^ 63) (Some (pos n)) None None above refl)))
]
fitting-found (negsuc n) v e = elim (cases_lt n (2 ^ 63)) [
  | inl below ↦ Some-injective (sym (e ∙ sym (cond_below n (2 ^ 63) (Some (negsuc n)) None below)))
  | inr above ↦ absurd (Some-not_none (e ∙ sym (cond_above n (2 ^ 63) (Some (negsuc n)) None None above refl)))
]

-- a number that was found not to fit does not
pub fitting-does_not_fit : (z : ℤ) → None ≡ fitting z → FitsSigned w64 z → ⊥
fitting-does_not_fit (pos n) e fits = Some-not_none (cond_below n (2 ^ 63) (Some (pos n)) None fits.sfits ∙ sym e)
fitting-does_not_fit (negsuc n) e fits = Some-not_none (cond_below n (2 ^ 63) (Some (negsuc n)) None fits.sfits ∙ sym e)
