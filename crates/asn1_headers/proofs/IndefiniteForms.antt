-- Headers of the indefinite form, for `whole_header::any_header`; and end-of-contents octets, for the crates above.
use Rattle.std.proofs.Common.{◌≡◌, ◌↔◌, ◌==◌, ℕ, ◌≤◌, Bool, true, false, List, [], ◌∷◌, ◌++◌, drop, length, take, sym, ap, ◌∙◌, subst, eqb-true}
use Rattle.std.proofs.lemmas.Bool.{and_parts, false≢true}
use Rattle.std.proofs.lemmas.List.{drop_at, length-take-le, take-append-drop}
use Rattle.std.specs.Prelude.{IsTrue}
use Rattle.asn1_headers.specs.Front.{HasIndefiniteForm}
use Rattle.asn1_headers.specs.Header.{IsIdentifier}
use Rattle.asn1_headers.specs.Indefinite.{begins_with_end, is_indefinite}
use Rattle.asn1_headers.proofs.Prefixes.{IsIdentifier-unique}

-- length octets of the indefinite form begin with the octet 80 (hexadecimal)
is_indefinite-cons : (len : List ℕ) → is_indefinite len ≡ true → (rest : List ℕ) × (len ≡ 128 ∷ rest)
is_indefinite-cons [] e = absurd (false≢true e)
is_indefinite-cons (first ∷ rest) e = (rest, ap (λ z. z ∷ rest) (eqb-true first 128 e))

-- octets that begin with end-of-contents octets are two octets 0 and what stands behind them
pub begins_with_end-cons : (octets : List ℕ) → begins_with_end octets ≡ true → octets ≡ 0 ∷ 0 ∷ drop 2 octets
begins_with_end-cons [] e = absurd (false≢true e)
begins_with_end-cons (a ∷ []) e = absurd (false≢true e)
begins_with_end-cons (a ∷ b ∷ rest) e =
    let (first, next) = and_parts (a == 0) (b == 0) e in
    ap (λ z. z ∷ b ∷ rest) (eqb-true a 0 first) ∙ ap (λ z. 0 ∷ z ∷ rest) (eqb-true b 0 next)

module _ (octets behind : List ℕ) (s m : ℕ) (class : _) (constructed : Bool) (fits : s ≤ length octets)
    (found : IsIdentifier (take s octets) class constructed m) (back : behind ≡ drop s octets) where
  -- a header of the indefinite form is constructed identifier octets before 80 (hexadecimal)
  pub HasIndefiniteForm-parts : HasIndefiniteForm octets
      → (constructed ≡ true) × ((rest : List ℕ) × (behind ≡ 128 ∷ rest))
  HasIndefiniteForm-parts (identifier, rest, whole, (other, tag, is)) =
      let same = IsIdentifier-unique (take s octets) identifier (drop s octets) (128 ∷ rest)
      class other constructed true m tag found is (take-append-drop s octets ∙ whole) in
      let size : length identifier ≡ s = sym (ap length same.octets) ∙ length-take-le s octets fits in
      (same.constructed, (rest, back ∙ (ap (drop s) whole ∙ drop_at identifier (128 ∷ rest) s size)))

  -- constructed identifier octets before 80 (hexadecimal) are a header of the indefinite form
  HasIndefiniteForm-from_parts : (rest : List ℕ) → constructed ≡ true → behind ≡ 128 ∷ rest → HasIndefiniteForm octets
  HasIndefiniteForm-from_parts rest is_so is = (
    take s octets,
    rest,
    sym (take-append-drop s octets) ∙ ap (λ z. take s octets ++ z) (sym back ∙ is),
    (class, m, subst (λ z. IsIdentifier (take s octets) class z m) is_so found),
  )

  -- constructed identifier octets begin a header of the indefinite form exactly if the length octets behind have it
  pub HasIndefiniteForm-is_indefinite :
      (has r : Bool) → constructed ≡ true → has ≡ is_indefinite behind → r ≡ has → IsTrue r ↔ HasIndefiniteForm octets
  HasIndefiniteForm-is_indefinite has r is_so is_true e = (
    λ t. let (rest, is) = is_indefinite-cons behind (sym is_true ∙ (sym e ∙ t)) in
        HasIndefiniteForm-from_parts rest is_so is,
    λ h. let (bits, (rest, is)) = HasIndefiniteForm-parts h in e ∙ (is_true ∙ ap is_indefinite is),
  )

  -- primitive identifier octets begin no header of the indefinite form
  pub HasIndefiniteForm-not_primitive : (r : Bool) → constructed ≡ false → r ≡ false
      → IsTrue r ↔ HasIndefiniteForm octets
  HasIndefiniteForm-not_primitive r is_not e =
      (λ t. absurd (cc (t, e)), λ h. let (bits, there) = HasIndefiniteForm-parts h in absurd (cc (bits, is_not)))
