-- Components of object identifiers as numbers below 2^64, for `components::put_components`.
use Rattle.std.proofs.Common.{◌≡◌, ℕ, ◌<◌, ◌^◌, inl, inr, List, [], ◌∷◌, refl, ap, ◌∙◌}
use Rattle.std.specs.Prelude.{All}
use Rattle.std.proofs.lemmas.List.Elements.{All-cons, All-head, All-nil, All-tail}
use Rattle.asn1_numbers.specs.FittingNumbers.{AreNumbers, HasNotAll}

-- the number fits 64 bits
abbrev pub Fits64 : ℕ → Type 0
Fits64 n = n < 2 ^ 64

-- numbers that fit are the components
pub AreNumbers-same : (xs ns : List ℕ) → AreNumbers Fits64 (λ x n. x ≡ n) xs ns → xs ≡ ns
AreNumbers-same [] [] all = refl
AreNumbers-same [] (n ∷ ns) all = absurd all
AreNumbers-same (x ∷ xs) [] all = absurd all
AreNumbers-same (x ∷ xs) (n ∷ ns) (h, e, rest) = ap (λ z. z ∷ xs) e ∙ ap (λ z. n ∷ z) (AreNumbers-same xs ns rest)

-- components that are numbers of 64 bits fit
pub All-fits : (xs ns : List ℕ) → AreNumbers Fits64 (λ x n. x ≡ n) xs ns → All Fits64 ns
All-fits [] [] all = All-nil Fits64
All-fits [] (n ∷ ns) all = absurd all
All-fits (x ∷ xs) [] all = absurd all
All-fits (x ∷ xs) (n ∷ ns) (h, e, rest) = All-cons Fits64 n ns h (All-fits xs ns rest)

-- where a component was found not to fit, not all components fit
pub HasNotAll-not_all : (ns : List ℕ) → HasNotAll Fits64 ns → All Fits64 ns → ⊥
HasNotAll-not_all [] none all = none
HasNotAll-not_all (n ∷ ns) (inl large) all = large (All-head Fits64 n ns all)
HasNotAll-not_all (n ∷ ns) (inr more) all = HasNotAll-not_all ns more (All-tail Fits64 n ns all)
