-- What is known of the contents octets of a BOOLEAN, for `contents::boolean::are_clearly_meant` and `asn1_blocks`.
use Rattle.std.proofs.Common.{◌≡◌, ℕ, ◌==◌, ◌⊎◌, Bool, true, false, not, List, [], ◌∷◌, length, inl, inr, refl, sym, ap, ◌∙◌, subst, arith}
use Rattle.asn1_headers.specs.Fault.{DecodeFault, IsOfReading, bad_boolean_length}
use Rattle.asn1_leaves.specs.Contents.Boolean.{BooleanContents, BooleanFault, boolean_contents}

-- contents octets mean one value
pub BooleanContents-unique : (a b : Bool) (contents : List ℕ) → BooleanContents a contents →
    BooleanContents b contents → a ≡ b
BooleanContents-unique a b contents (x, p, r) (y, q, s) =
    let f : x ∷ [] ≡ y ∷ [] = sym p ∙ q in
    let g : x ≡ y = cc in
    r ∙ (ap (λ z. not (z == 0)) g ∙ sym s)

-- one octet means a value
pub BooleanContents-one : (contents : List ℕ) → length contents ≡ 1 → (b : Bool) × BooleanContents b contents
BooleanContents-one [] e = absurd (omega (arith, e))
BooleanContents-one (x ∷ []) e = (not (x == 0), (x, refl, refl))
BooleanContents-one (x ∷ y ∷ rest) e = absurd (omega (arith, e))

-- contents octets that are not one mean no value
pub BooleanFault-not_one : (contents : List ℕ) → (length contents ≡ 1 → ⊥) →
    BooleanFault contents (bad_boolean_length (length contents))
BooleanFault-not_one contents other = (λ b p. other (ap length p.1), refl)

-- contents octets that mean no value have a fault
pub BooleanContents-or_fault : (contents : List ℕ) →
    ((b : Bool) × BooleanContents b contents) ⊎ ((e : DecodeFault) × BooleanFault contents e)
BooleanContents-or_fault [] = inr (bad_boolean_length 0, BooleanFault-not_one [] (λ e. omega (arith, e)))
BooleanContents-or_fault (x ∷ []) = inl (not (x == 0), (x, refl, refl))
BooleanContents-or_fault (x ∷ y ∷ rest) =
    let contents = x ∷ y ∷ rest in
    inr (bad_boolean_length (length contents), BooleanFault-not_one contents (λ e. omega (arith, e)))

-- the fault of contents octets that mean no value is one of reading
pub BooleanFault-of_reading : (contents : List ℕ) (e : DecodeFault) → BooleanFault contents e → IsOfReading e
BooleanFault-of_reading contents e f = subst IsOfReading (sym f.1) tt

-- what is written of a value means it
pub BooleanContents-written : (b : Bool) → BooleanContents b (boolean_contents b)
BooleanContents-written true = (255, refl, refl)
BooleanContents-written false = (0, refl, refl)
