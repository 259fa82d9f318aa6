-- Natural numbers as values of a type, which has some of them.
use Rattle.std.specs.Prelude.{ℕ, ◌⊎◌, List, [], ◌∷◌}

-- the values are these numbers, one after another, and the type has them all
abbrev pub AreNumbers : {T : Type 0} → (ℕ → Type 0) → (T → ℕ → Type 0) → List T → List ℕ → Type 0
AreNumbers has is_number [] [] = Unit {0}
AreNumbers has is_number [] (n ∷ ns) = ⊥
AreNumbers has is_number (x ∷ xs) [] = ⊥
AreNumbers has is_number (x ∷ xs) (n ∷ ns) =
    has n × is_number x n × AreNumbers has is_number xs ns

-- the type does not have one of the numbers
abbrev pub HasNotAll : (ℕ → Type 0) → List ℕ → Type 0
HasNotAll has [] = ⊥
HasNotAll has (n ∷ ns) = (has n → ⊥) ⊎ HasNotAll has ns
