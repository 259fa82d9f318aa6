-- The components that are found in contents octets are those that they mean, for `oid` and `simple_asn1_c`.
use Rattle.std.proofs.Common.{◌≡◌, ℕ, ◌+◌, ◌*◌, ◌%◌, inl, inr, List, [], ◌∷◌, ◌++◌, map, refl, sym, ap, ◌∙◌, subst, arith, ◌≤◌, None, length, Bool, false, ◌==◌}
use Rattle.std.specs.Int.Digits.{number_from_digits_after}
use Rattle.std.specs.Cmp.Lexicographic.{pointwise}
use Rattle.std.proofs.lemmas.Bool.Decides.{Decides-eqb, Decides-like, same_from_decides}
use Rattle.std.proofs.lemmas.Slice.Eq.{slice_eq-Decides}
use Rattle.asn1_numbers.specs.Octets.{AreOctets}
use Rattle.asn1_numbers.specs.Base128.{IsContinued, low_bits_number}
use Rattle.asn1_leaves.specs.Contents.ObjectIdentifier.{AreFirstTwo, ObjectIdentifierContents, Subidentifiers, object_identifier_contents, object_identifier_write_fault}
use Rattle.asn1_leaves.specs.Inner.IdentifierForms.{HaveShortContents, IsShortForm, components_of, first_component, numbers_after, second_component}
use Rattle.asn1_leaves.proofs.Leaves.ObjectIdentifier.{ObjectIdentifierContents-written, object_identifier_write_fault-read}

-- the numbers of subidentifiers are that of the first one, and then those of the others
pub numbers_after-append : (n : ℕ) (first rest : List ℕ) → IsContinued first
    → numbers_after n (first ++ rest) ≡ number_from_digits_after 128 n (map (λ b. b % 128) first) ∷ numbers_after 0 rest
numbers_after-append n [] rest p = absurd p
numbers_after-append n (b ∷ []) rest p = grind (arith, p)
numbers_after-append n (b ∷ c ∷ first) rest p =
    let more = numbers_after-append (n * 128 + b % 128) (c ∷ first) rest p.1 in
    grind (arith, p.0, more)

-- the numbers that are found in subidentifiers are the numbers that they are of
numbers_after-Subidentifiers : (ns octets : List ℕ) → Subidentifiers ns octets → numbers_after 0 octets ≡ ns
numbers_after-Subidentifiers [] octets s = ap (numbers_after 0) s
numbers_after-Subidentifiers (n ∷ ns) octets (first, rest, e, p, s) =
    let here = ap (numbers_after 0) e ∙ numbers_after-append 0 first rest p.continued in
    let value : n ≡ low_bits_number first = p.value in
    let others = numbers_after-Subidentifiers ns rest s in
    here ∙ cc

-- the first component that is found in the octet of two components is the first of these
pub first_component-AreFirstTwo : (x y b : ℕ) → AreFirstTwo x y b → first_component b ≡ x
first_component-AreFirstTwo x y b (e, p, inl q) = grind (arith, e, p, q)
first_component-AreFirstTwo x y b (e, p, inr q) = grind (arith, e, p, q)

-- the second component that is found in the octet of two components is the second of these
pub second_component-AreFirstTwo : (x y b : ℕ) → AreFirstTwo x y b → second_component b ≡ y
second_component-AreFirstTwo x y b f = omega (arith, first_component-AreFirstTwo x y b f, f.0)

-- the components that are found in contents octets are the components that the octets mean, if any
pub components_of-contents : (ns contents : List ℕ) → ObjectIdentifierContents ns contents → components_of contents ≡ ns
components_of-contents [] contents p = absurd p
components_of-contents (x ∷ []) contents p = absurd p
components_of-contents (x ∷ y ∷ ns) contents (b, octets, e, f, s) =
    let first : first_component b ≡ x = first_component-AreFirstTwo x y b f in
    let second : second_component b ≡ y = second_component-AreFirstTwo x y b f in
    let others = numbers_after-Subidentifiers ns octets s in
    ap components_of e ∙ cc

-- the components of what is written are those that were written
pub components_of-object_identifier_contents : (ns : List ℕ) → object_identifier_write_fault ns ≡ None →
    components_of (object_identifier_contents ns) ≡ ns
components_of-object_identifier_contents ns fits =
    components_of-contents ns (object_identifier_contents ns) (ObjectIdentifierContents-written ns fits)

-- contents octets that are written, if few, are a form of their components
pub IsShortForm-written : (ns : List ℕ) → HaveShortContents ns → IsShortForm (object_identifier_contents ns)
IsShortForm-written ns short =
    let found = sym (components_of-object_identifier_contents ns short.0) in
    (subst HaveShortContents found short, ap object_identifier_contents found)

-- contents octets that are written of their components are a form of them
pub IsShortForm-contents : (ns contents : List ℕ) → AreOctets contents → ObjectIdentifierContents ns contents →
    contents ≡ object_identifier_contents ns
    → length contents ≤ 24
    → IsShortForm contents
IsShortForm-contents ns contents all p e short =
    let found = components_of-contents ns contents p in
    let fits = object_identifier_write_fault-read ns contents all p in (
      subst HaveShortContents (sym found) (fits, subst (λ z. length z ≤ 24) e short),
      e ∙ ap object_identifier_contents (sym found),
    )

-- contents octets that are a short form mean their components
pub IsShortForm-meant : (contents : List ℕ) → IsShortForm contents →
    ObjectIdentifierContents (components_of contents) contents
IsShortForm-meant contents (fits, e) =
    subst (ObjectIdentifierContents (components_of contents)) (sym e)
    (ObjectIdentifierContents-written (components_of contents) fits.0)

-- the octets of two short forms are equal where their components are
pub pointwise-short_forms : (x y ms ns : List ℕ) (r : Bool) → IsShortForm x → IsShortForm y → components_of x ≡ ms →
    components_of y ≡ ns
    → r ≡ pointwise (λ m n. m == n) x y → r ≡ pointwise (λ m n. m == n) ms ns
pointwise-short_forms x y ms ns r p q e f equal =
    same_from_decides r (pointwise (λ m n. m == n) ms ns)
    (Decides-like r
    (λ same. sym e ∙ ap components_of same ∙ f)
    (λ same. p.1 ∙ ap object_identifier_contents (e ∙ same ∙ sym f) ∙ sym q.1)
    (slice_eq-Decides Decides-eqb x y r equal))
    (slice_eq-Decides Decides-eqb ms ns (pointwise (λ m n. m == n) ms ns) refl)

-- components that have a short form are not the same as components that have none
pub pointwise-one_short : (ms ns : List ℕ) → HaveShortContents ms → (HaveShortContents ns → ⊥)
    → (false ≡ pointwise (λ m n. m == n) ms ns) × (false ≡ pointwise (λ m n. m == n) ns ms)
pointwise-one_short ms ns short none = (
  same_from_decides false (pointwise (λ m n. m == n) ms ns)
      (λ h. cc, λ e. absurd (none (subst HaveShortContents e short)))
      (slice_eq-Decides Decides-eqb ms ns (pointwise (λ m n. m == n) ms ns) refl),
  same_from_decides false (pointwise (λ m n. m == n) ns ms)
      (λ h. cc, λ e. absurd (none (subst HaveShortContents (sym e) short)))
      (slice_eq-Decides Decides-eqb ns ms (pointwise (λ m n. m == n) ns ms) refl),
)
