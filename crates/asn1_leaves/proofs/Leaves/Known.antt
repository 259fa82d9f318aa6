-- Facts that are known to hold or known to fail, for the contents octets of times and for `simple_asn1`.
use Rattle.std.proofs.Common.{◌≡◌, ℕ, ◌<◌, ◌⊎◌, inl, inr, List, sym, ◌∙◌, arith}
use Rattle.std.specs.Int.{IsInRange}
use Rattle.std.proofs.lemmas.Bool.{false≢true, cases_Bool, cases_lt}
use Rattle.std.specs.Str.{bytes_eq}
use Rattle.std.proofs.lemmas.Slice.Eq.{bytes_eq-Decides}

abbrev pub Known : Type 0 → Type 0
Known P = P ⊎ (P → ⊥)

-- a fact that holds only where another does
pub Known-within : {A B : Type 0} → Known A → (B → A) → (A → Known B) → Known B
Known-within (inl a) f g = g a
Known-within (inr no_a) f g = inr (λ b. no_a (f b))

-- it is known whether a number is below another
pub Known-lt : (a b : ℕ) → Known (a < b)
Known-lt a b = elim (cases_lt a b) [ inl l ↦ inl l | inr g ↦ inr (λ l. omega (arith, l, g)) ]

-- it is known whether a number is in a range
pub Known-IsInRange : (low high n : ℕ) → Known (IsInRange low high n)
Known-IsInRange low high n = elim (cases_lt n low) [
  | inl l ↦ inr (λ r. omega (arith, l, r))
  | inr g ↦ elim (cases_lt high n) [ inl m ↦ inr (λ r. omega (arith, m, r)) | inr h ↦ inl (g, h) ]
]

-- it is known whether octets are equal to others
pub Known-octets : (xs ys : List ℕ) → Known (xs ≡ ys)
Known-octets xs ys = let d = bytes_eq-Decides xs ys in elim (cases_Bool (bytes_eq xs ys)) [
  | inl e ↦ inl (d.0 e)
  | inr e ↦ inr (λ s. false≢true (sym e ∙ d.1 s))
]
