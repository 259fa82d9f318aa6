-- A GeneralizedTime that is DER, with at most nine digits of a fraction, is written as it came, for
-- `laws::law_der_is_canonical`.
use Rattle.std.proofs.Common.{◌≡◌, ◌≢◌, ◌==◌, ℕ, ◌-◌, ◌<◌, ◌≤◌, ◌⊎◌, Bool, true, false, not, List, [], ◌∷◌, ◌++◌, inl, inr, length, get_or, refl, sym, ap, ap₂, ◌∙◌, arith, length-append}
use Rattle.std.specs.Prelude.{◌&&◌, ◌||◌, nat_lt}
use Rattle.std.specs.Char.{is_ascii_digit}
use Rattle.std.specs.List.{list_all}
use Rattle.asn1_leaves.proofs.CanonicalTimes.{get_or-to_second, length-to_second}
use Rattle.std.proofs.lemmas.Bool.{and_parts, cases_lt, false≢true}
use Rattle.std.proofs.lemmas.Bool.Decides.{nat_tests}
use Rattle.asn1_leaves.specs.Contents.GeneralizedTime.{GeneralizedTimeContents, fraction_number, generalized_time_contents, tenth, to_second, written_fraction}
use Rattle.asn1_leaves.specs.Contents.Moment.{Moment}
use Rattle.asn1_der.specs.Padding.{has_padded_fraction, last_octet}
use Rattle.asn1_laws.specs.Spellings.{has_many_digits}
use Rattle.asn1_leaves.proofs.Fractions.{is_ascii_digit-range, length-fraction_digits-le, IsFraction-digits, get_or-before_last}
use Rattle.asn1_leaves.proofs.Leaves.GeneralizedTime.{written_fraction-some}

-- that a condition needs one of two others holds where one of the two holds
or-either : (a b c : Bool) → (b ≡ true) ⊎ (c ≡ true) → (not a || b || c) ≡ true
or-either true true c h = refl
or-either true false true h = refl
or-either true false false (inl e) = absurd cc
or-either true false false (inr e) = absurd cc
or-either false b c h = refl

-- that a condition needs one of two others holds where the condition is false
or-no_point : (a b c : Bool) → a ≡ false → (not a || b || c) ≡ true
or-no_point true b c e = absurd cc
or-no_point false b c e = refl

module _ (contents : List ℕ) (size : 15 < length contents) where
  -- the test for more than 15 contents octets succeeds where there are more
  nat_lt-15-length : nat_lt 15 (length contents) ≡ true
  nat_lt-15-length = grind (arith, nat_tests, size)

  -- a fraction without a point before it is padded
  has_padded_fraction-without_point : (get_or contents 14 0 == 46) ≡ false → has_padded_fraction contents ≡ true
  has_padded_fraction-without_point e =
      ap₂ (λ x y. x && y) nat_lt-15-length
      (or-no_point (get_or contents 14 0 == 46) (get_or contents (length contents - 2) 0 == 48)
      (get_or contents (length contents - 2) 0 == 46) e)

  -- a fraction that ends in 0, or has no digit, is padded
  has_padded_fraction-padded_end : (get_or contents (length contents - 2) 0 ≡ 48)
      ⊎ (get_or contents (length contents - 2) 0 ≡ 46) →
      has_padded_fraction contents ≡ true
  has_padded_fraction-padded_end h =
      ap₂ (λ x y. x && y) nat_lt-15-length
      (or-either (get_or contents 14 0 == 46) (get_or contents (length contents - 2) 0 == 48)
      (get_or contents (length contents - 2) 0 == 46) (is h))
    where
      -- where the octet before the last is a zero or a point, the test for it succeeds
      is : (get_or contents (length contents - 2) 0 ≡ 48) ⊎ (get_or contents (length contents - 2) 0 ≡ 46)
          → ((get_or contents (length contents - 2) 0 == 48) ≡ true)
          ⊎ ((get_or contents (length contents - 2) 0 == 46) ≡ true)
      is (inl e) = inl (ap (λ z. z == 48) e)
      is (inr e) = inr (ap (λ z. z == 46) e)

module _ (m : Moment) where
  -- digits behind the seconds are padding without a point
  has_padded_fraction-bare_digits : (digits : List ℕ) → list_all is_ascii_digit digits ≡ true → 0 < length digits
      → has_padded_fraction (to_second m ++ (digits ++ 90 ∷ [])) ≡ true
  has_padded_fraction-bare_digits [] all some = absurd (omega (arith, some))
  has_padded_fraction-bare_digits (d ∷ ds) all some =
      let whole = to_second m ++ (d ∷ ds ++ 90 ∷ []) in
      let (low, high) = is_ascii_digit-range d (and_parts (is_ascii_digit d) (list_all is_ascii_digit ds) all).0 in
      let other : (d == 46) ≡ false = grind (arith, nat_tests, low) in
      has_padded_fraction-without_point whole
      (omega (arith, length-to_second m (d ∷ ds ++ 90 ∷ []), length-append ds (90 ∷ [])))
      (ap (λ z. z == 46) (get_or-to_second m d (ds ++ 90 ∷ [])) ∙ other)

  -- a point without digits is a padded fraction
  has_padded_fraction-bare_point : has_padded_fraction (to_second m ++ (46 ∷ 90 ∷ [])) ≡ true
  has_padded_fraction-bare_point =
      let whole = to_second m ++ (46 ∷ 90 ∷ []) in
      has_padded_fraction-padded_end whole (omega (arith, length-to_second m (46 ∷ 90 ∷ [])))
      (inr (get_or-before_last (to_second m) (46 ∷ []) 90 (omega arith)))

  -- digits that are not padding do not end in 0
  last_octet-not_padded : (digits : List ℕ) → 0 < length digits →
      has_padded_fraction (to_second m ++ (46 ∷ (digits ++ 90 ∷ []))) ≡ false → last_octet digits ≢ 48
  last_octet-not_padded digits some unpadded zero_at_end =
      let whole = to_second m ++ (46 ∷ (digits ++ 90 ∷ [])) in
      let more = length-append digits (90 ∷ []) in
      let same : (to_second m ++ 46 ∷ []) ++ (digits ++ 90 ∷ []) ≡ whole = refl in
      let is : get_or whole (length whole - 2) 0 ≡ 48 =
      get_or-before_last (to_second m ++ 46 ∷ []) digits 90 some ∙ zero_at_end in
      false≢true (sym unpadded
      ∙ has_padded_fraction-padded_end whole (omega (arith, length-to_second m (46 ∷ (digits ++ 90 ∷ [])), more))
      (inl is))

  -- a fraction that is not padded and has at most nine digits is what is written of its nanoseconds
  written_fraction-end : (digits end : List ℕ) → list_all is_ascii_digit digits ≡ true →
      m.nanosecond ≡ fraction_number tenth digits
      → (end ≡ digits ++ 90 ∷ []) ⊎ (end ≡ 46 ∷ (digits ++ 90 ∷ [])) → has_padded_fraction (to_second m ++ end) ≡ false
      → length end ≤ 11 → end ≡ written_fraction m.nanosecond ++ 90 ∷ []
  written_fraction-end [] end all is (inl e) unpadded few = e ∙ ap (λ z. written_fraction z ++ 90 ∷ []) (sym is)
  written_fraction-end (d ∷ ds) end all is (inl e) unpadded few =
      absurd (false≢true (sym unpadded
      ∙ (ap (λ z. has_padded_fraction (to_second m ++ z)) e
      ∙ has_padded_fraction-bare_digits (d ∷ ds) all (omega arith))))
  written_fraction-end [] end all is (inr e) unpadded few =
      absurd (false≢true (sym unpadded
      ∙ (ap (λ z. has_padded_fraction (to_second m ++ z)) e ∙ has_padded_fraction-bare_point)))
  written_fraction-end (d ∷ ds) end all is (inr e) unpadded few =
      let digits = d ∷ ds in
      let last = last_octet-not_padded digits (omega arith)
      (sym (ap (λ z. has_padded_fraction (to_second m ++ z)) e) ∙ unpadded) in
      let size : length digits ≤ 9 = omega (arith, few, ap length e, length-append digits (90 ∷ [])) in
      let f = IsFraction-digits 8 tenth digits refl all (omega arith) size last in
      let written : written_fraction m.nanosecond ≡ 46 ∷ digits =
      ap written_fraction is
      ∙ (written_fraction-some (fraction_number tenth digits) f.some ∙ ap (λ z. 46 ∷ z) f.again) in
      e ∙ sym (ap (λ z. z ++ 90 ∷ []) written)

-- contents octets that mean a moment are the octets that are written of it, if their fraction is not padded and has at
-- most nine digits
pub GeneralizedTimeContents-der :
    (m : Moment) (contents : List ℕ) → GeneralizedTimeContents m contents → has_padded_fraction contents ≡ false →
    has_many_digits contents ≡ false →
    contents ≡ generalized_time_contents m
GeneralizedTimeContents-der m contents p unpadded few =
    let size : length contents ≤ 25 = grind (arith, nat_tests, few) in
    let end = written_fraction-end m p.digits p.end p.is_end.0 p.nanosecond p.is_end.1
    (sym (ap has_padded_fraction p.octets) ∙ unpadded)
    (omega (arith, size, ap length p.octets, length-to_second m p.end)) in
    p.octets ∙ ap (λ z. to_second m ++ z) end

-- a point and at most nine digits are written of nanoseconds
length-written_fraction-le : (n : ℕ) → length (written_fraction n) ≤ 10
length-written_fraction-le n = elim (cases_lt 0 n) [
  | inl some ↦ omega (arith, ap length (written_fraction-some n some), length-fraction_digits-le 9 tenth n)
  | inr none ↦ let zero : n ≡ 0 = omega (arith, none) in omega (arith, ap (λ z. length (written_fraction z)) zero)
]

-- the contents octets that are written of a moment have at most nine digits of a fraction
pub has_many_digits-written : (m : Moment) (contents : List ℕ) → contents ≡ generalized_time_contents m →
    has_many_digits contents ≡ false
has_many_digits-written m contents e =
    let end = written_fraction m.nanosecond ++ 90 ∷ [] in
    let size : length contents ≤ 25 =
    omega (
      arith,
      ap length e,
      length-to_second m end,
      length-append (written_fraction m.nanosecond) (90 ∷ []),
      length-written_fraction-le m.nanosecond,
    ) in
    grind (arith, nat_tests, size)
