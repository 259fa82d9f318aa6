-- Lists of natural numbers as values of a type, for `oid::numbers_of` of `asn1_leaves`.
use Rattle.std.proofs.Common.{◌≡◌, ℕ, zero, suc, ◌<◌, inl, inr, List, [], ◌∷◌, length, get_or, sym, subst, arith, refl}
use Rattle.asn1_numbers.specs.FittingNumbers.{HasNotAll}
use Rattle.std.proofs.lemmas.List.{get_or_read_under}

-- a type that does not have the number at a place does not have all numbers
HasNotAll-at : (has : ℕ → Type 0) (ns : List ℕ) (i : ℕ) → i < length ns → (has (get_or ns i 0) → ⊥) → HasNotAll has ns
HasNotAll-at has [] i h p = absurd (omega (arith, h))
HasNotAll-at has (n ∷ ns) zero h p = inl p
HasNotAll-at has (n ∷ ns) (suc i) h p = inr (HasNotAll-at has ns i (omega (arith, h)) p)

-- a type that does not have an item of a list does not have all its items
pub HasNotAll-missing_item : (has : ℕ → Type 0) (ns : List ℕ) (i n : ℕ) → i < length ns → n ≡ get_or ns i n
    → (has n → ⊥)
    → HasNotAll has ns
HasNotAll-missing_item has ns i n h at p =
    HasNotAll-at has ns i h (λ q. p (subst has (sym (get_or_read_under ns i (length ns) n 0 at h refl)) q))
