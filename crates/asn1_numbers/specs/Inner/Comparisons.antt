-- Octets that are compared with those that are pushed.
use Rattle.std.specs.Prelude.{◌≡◌, ◌↔◌, ℕ, ◌+◌, ◌≤◌, ◌++◌, ◌∷◌, List, [], length, IsTrue}
use Rattle.std.proofs.Common.{refl, sym, ap, ◌∙◌, arith, append_assoc, length-append, append-nil}
use Rattle.asn1_numbers.specs.declared.sink.Comparison.{Comparison}
use Rattle.std.proofs.lemmas.List.{nil_from_length}

abbrev pub left : Comparison → ℕ
left a = length a.rest.now

abbrev pub compared : Comparison → List ℕ → Comparison → Type 0
compared a xs b =
    (front : List ℕ) × (a.rest.now ≡ front ++ b.rest.now) × (length front ≡ length xs)
    × (IsTrue b.same ↔ (IsTrue a.same × (front ≡ xs)))

-- two splits of one list at one place are the same
same_split : (s t x y : List ℕ) → length s ≡ length t → s ++ x ≡ t ++ y → (s ≡ t) × (x ≡ y)
same_split [] [] x y l e = (refl, e)
same_split [] (b ∷ t) x y l e = absurd (omega (arith, l))
same_split (a ∷ s) [] x y l e = absurd (omega (arith, l))
same_split (a ∷ s) (b ∷ t) x y l e =
    let h : a ≡ b = cc in
    let r : s ++ x ≡ t ++ y = cc in
    let p = same_split s t x y (omega (arith, l)) r in
    let q : s ≡ t = p.0 in
    (cc, p.1)

pub compared_none : (a : Comparison) → compared a [] a
compared_none a = ([], refl, refl, (λ h. (h, refl), λ p. p.0))

pub compared_more : (a b c : Comparison) (xs ys : List ℕ)
    → compared a xs b → compared b ys c → compared a (xs ++ ys) c
compared_more a b c xs ys (first, starts, size, (equal, meant)) (second, goes_on, size', (equal', meant')) = (
  first ++ second,
  starts ∙ ap (λ z. first ++ z) goes_on ∙ sym (append_assoc first second c.rest.now),
  omega (arith, size, size', length-append first second, length-append xs ys),
  (
    λ same. let (same_first, seconds) = equal' same in
        let (same_before, firsts) = equal same_first in
        (same_before, ap (λ z. z ++ second) firsts ∙ ap (λ z. xs ++ z) seconds),
    λ (same_before, all). let (firsts, seconds) = same_split first xs second ys size all in
        meant' (meant (same_before, firsts), seconds),
  ),
)

-- where as many octets were compared as there are, they are the same exactly if all were
pub compared_all :
    (a c : Comparison) (xs : List ℕ) → compared a xs c → IsTrue a.same → length a.rest.now ≡ length xs →
    IsTrue c.same ↔ (a.rest.now ≡ xs)
compared_all a c xs (first, starts, length_is, (equal, meant)) same size =
    let none : c.rest.now ≡ [] =
    nil_from_length c.rest.now (omega (arith, ap length starts, length-append first c.rest.now, length_is, size)) in
    let all : a.rest.now ≡ first = starts ∙ (ap (λ z. first ++ z) none ∙ append-nil first) in
    (λ t. all ∙ (equal t).1, λ e. meant (same, sym all ∙ e))

pub left_after : (a b : Comparison) (xs : List ℕ) → compared a xs b → left a ≤ left b + length xs
left_after a b xs p = omega (arith, ap length p.1, p.2, length-append p.0 b.rest.now)
