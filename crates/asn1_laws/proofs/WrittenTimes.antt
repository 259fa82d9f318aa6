-- What is written of a moment as a GeneralizedTime is DER, for `laws::law_written_is_der`.
use Rattle.std.proofs.Common.{◌≡◌, ◌==◌, ℕ, zero, suc, ◌+◌, ◌-◌, ◌*◌, ◌/◌, ◌%◌, ◌<◌, ◌≤◌, ◌^◌, Bool, true, false, not, List, [], ◌∷◌, ◌++◌, inl, inr, length, get_or, refl, sym, ap, ◌∙◌, subst, arith}
use Rattle.std.specs.Prelude.{◌&&◌, ◌||◌, nat_lt}
use Rattle.std.proofs.Math.Nat.{pow-succ'}
use Rattle.std.proofs.lemmas.Bool.{cases_lt}
use Rattle.std.proofs.lemmas.Bool.Decides.{nat_tests}
use Rattle.std.proofs.lemmas.Nat.{div-add-mod'}
use Rattle.asn1_leaves.specs.Contents.GeneralizedTime.{fraction_digits, generalized_time_contents, tenth, to_second, written_fraction}
use Rattle.asn1_leaves.specs.Contents.Moment.{Moment, IsValid}
use Rattle.asn1_leaves.proofs.Leaves.Digits.{div-unit-le, fraction_digits-zero, fraction_digits-step, pow-positive}
use Rattle.asn1_leaves.proofs.Leaves.GeneralizedTime.{GeneralizedTimeContents-written, written_fraction-some}
use Rattle.asn1_der.specs.Padding.{has_padded_fraction, last_octet}
use Rattle.asn1_der.specs.Times.{IsGeneralizedTime, IsMoment}
use Rattle.asn1_leaves.proofs.Fractions.{get_or-last_cons, get_or-before_last}
use Rattle.asn1_leaves.proofs.CanonicalTimes.{get_or-to_second}

-- a digit above 0
abbrev IsAboveZero : ℕ → Type 0
IsAboveZero d = (48 < d) × (d ≤ 57)

-- some digits, the last of which is above 0
record EndsAboveZero (digits : List ℕ) : Type 0 where
  pub some : 0 < length digits
  pub last : IsAboveZero (last_octet digits)

-- digits that end above 0 end above 0 with another octet before them
EndsAboveZero-cons : (d : ℕ) (digits : List ℕ) → EndsAboveZero digits → EndsAboveZero (d ∷ digits)
EndsAboveZero-cons d [] e = absurd (omega (arith, e.some))
EndsAboveZero-cons d (c ∷ digits) e =
    record { some = omega arith; last = subst IsAboveZero (sym (get_or-last_cons d c digits)) e.last }

-- a number above 0 that a unit divides without rest has a quotient above 0
quotient_positive : (n q r unit : ℕ) → 0 < n → q * unit + r ≡ n → r ≡ 0 → 0 < q
quotient_positive n zero r unit some p z = absurd (omega (arith, p, z, some))
quotient_positive n (suc q) r unit some p z = omega arith

-- a fraction above 0 whose first digit leaves nothing ends in that digit, which is above 0
EndsAboveZero-last_digit :
    (k unit n : ℕ) → 0 < unit → 0 < n → n < 10 * unit → n % unit ≤ 0 → EndsAboveZero (fraction_digits (suc k) unit n)
EndsAboveZero-last_digit k unit n positive some below none =
    let zero_left : n % unit ≡ 0 = omega (arith, none) in
    let few : n / unit ≤ 9 = div-unit-le n unit positive below in
    let digit_some : 0 < n / unit =
    quotient_positive n (n / unit) (n % unit) unit some (div-add-mod' n unit) zero_left in
    let alone : fraction_digits (suc k) unit n ≡ (48 + n / unit) ∷ [] =
    fraction_digits-step (suc k) unit n (omega arith) some
    ∙ ap (λ z. (48 + n / unit) ∷ z)
    (ap (λ z. fraction_digits (suc k - 1) (unit / 10) z) zero_left ∙ fraction_digits-zero (suc k - 1) (unit / 10)) in
    subst EndsAboveZero (sym alone)
    (record { some = omega arith; last = (omega (arith, digit_some), omega (arith, few)) })

-- the digits of a fraction above 0 end in a digit above 0
EndsAboveZero-fraction_digits : (k unit n : ℕ) → unit ≡ 10 ^ k → 0 < n → n < 10 * unit →
    EndsAboveZero (fraction_digits (suc k) unit n)
EndsAboveZero-fraction_digits zero unit n e some below =
    let one : unit ≡ 1 = e in
    EndsAboveZero-last_digit zero unit n (omega (arith, one)) some below (omega (arith, one))
EndsAboveZero-fraction_digits (suc k) unit n e some below =
    let ten : unit ≡ 10 * 10 ^ k = e ∙ pow-succ' 10 k in
    let positive : 0 < unit = omega (arith, ten, pow-positive k) in
    let lower : unit / 10 ≡ 10 ^ k = omega (arith, ten) in
    let small : n % unit < 10 * (unit / 10) = omega (arith, ten, lower, positive) in
    let places : suc (suc k) - 1 ≡ suc k = omega arith in
    elim (cases_lt 0 (n % unit)) [
      | inr none ↦ EndsAboveZero-last_digit (suc k) unit n positive some below none
      | inl more ↦ subst EndsAboveZero
          (sym (fraction_digits-step (suc (suc k)) unit n (omega arith) some
          ∙ ap (λ j. (48 + n / unit) ∷ fraction_digits j (unit / 10) (n % unit)) places))
          (EndsAboveZero-cons (48 + n / unit) (fraction_digits (suc k) (unit / 10) (n % unit))
          (EndsAboveZero-fraction_digits k (unit / 10) (n % unit) lower more small))
    ]

-- a fraction behind a point, with a last digit above 0, is not padded
and-unpadded : (long : Bool) (a b : ℕ) → a ≡ 46 → IsAboveZero b →
    (long && (not (a == 46) || (b == 48) || (b == 46))) ≡ false
and-unpadded true a b point above = grind (arith, nat_tests, point, above)
and-unpadded false a b point above = refl

-- a moment to the second, the fraction that is written of less than a second, and Z have no padded fraction
has_padded_fraction-written_fraction : (m : Moment) (n : ℕ) → n < 1000000000 →
    has_padded_fraction (to_second m ++ (written_fraction n ++ 90 ∷ [])) ≡ false
has_padded_fraction-written_fraction m n small = elim (cases_lt 0 n) [
  | inr none ↦ let zero_left : n ≡ 0 = omega (arith, none) in
      ap (λ z. has_padded_fraction (to_second m ++ (written_fraction z ++ 90 ∷ []))) zero_left ∙ whole
  | inl some ↦ let f = written_fraction-some n some in
      let digits = fraction_digits 9 tenth n in
      let ends = EndsAboveZero-fraction_digits 8 tenth n refl some small in
      let contents = to_second m ++ (46 ∷ (digits ++ 90 ∷ [])) in
      let last = get_or-before_last (to_second m ++ 46 ∷ []) digits 90 ends.some in
      ap (λ z. has_padded_fraction (to_second m ++ (z ++ 90 ∷ []))) f
      ∙ and-unpadded (nat_lt 15 (length contents)) (get_or contents 14 0) (get_or contents (length contents - 2) 0)
      (get_or-to_second m 46 (digits ++ 90 ∷ [])) (subst IsAboveZero (sym last) ends.last)
]
  where
    -- a moment to the second and Z, without a fraction between them, have no padded fraction
    whole : has_padded_fraction (to_second m ++ (90 ∷ [])) ≡ false
    whole = refl

-- what is written of a valid moment is a GeneralizedTime of DER
pub IsGeneralizedTime-written : (m : Moment) → IsValid m → IsGeneralizedTime (generalized_time_contents m)
unfolding IsMoment
IsGeneralizedTime-written m v =
    (inl (m, GeneralizedTimeContents-written m v), has_padded_fraction-written_fraction m m.nanosecond v.nanosecond)
