-- Contents octets of a GeneralizedTime that are written as they are, for `are_clearly_canonical` of
-- `contents::generalized_time`, and for `asn1_laws`.
use Rattle.std.proofs.Common.{◌≡◌, ◌≢◌, ℕ, ◌+◌, ◌-◌, ◌<◌, ◌≤◌, ◌⊎◌, true, List, [], ◌∷◌, ◌++◌, inl, inr, length, get_or, refl, sym, ap, ◌∙◌, arith, length-append}
use Rattle.std.specs.Char.{is_ascii_digit}
use Rattle.std.specs.List.{list_all}
use Rattle.std.proofs.lemmas.Bool.{and_parts}
use Rattle.std.proofs.lemmas.List.{get_or-append-add}
use Rattle.asn1_leaves.specs.Contents.GeneralizedTime.{GeneralizedTimeContents, fraction_number, generalized_time_contents, tenth, to_second, written_fraction}
use Rattle.asn1_leaves.specs.Contents.Moment.{Moment}
use Rattle.asn1_leaves.proofs.Fractions.{is_ascii_digit-range, IsFraction-digits, get_or-before_last}
use Rattle.asn1_leaves.proofs.Leaves.GeneralizedTime.{written_fraction-some}

module _ (m : Moment) where
  -- a moment to the second is 14 octets, whatever octets follow it
  pub length-to_second : (end : List ℕ) → length (to_second m ++ end) ≡ 14 + length end
  length-to_second end = length-append (to_second m) end

  -- the octet behind a moment to the second stands at index 14
  pub get_or-to_second : (d : ℕ) (end : List ℕ) → get_or (to_second m ++ d ∷ end) 14 0 ≡ d
  get_or-to_second d end = get_or-append-add (to_second m) (d ∷ end) 0 0

  -- the fraction and Z behind the seconds are those that are written
  end_written : (digits end : List ℕ) → list_all is_ascii_digit digits ≡ true →
      m.nanosecond ≡ fraction_number tenth digits
      → (end ≡ digits ++ 90 ∷ []) ⊎ (end ≡ 46 ∷ (digits ++ 90 ∷ [])) → 2 < length end → length end ≤ 11
      → get_or (to_second m ++ end) 14 0 ≡ 46 → get_or (to_second m ++ end) (length (to_second m ++ end) - 2) 0 ≢ 48
      → end ≡ written_fraction m.nanosecond ++ 90 ∷ []
  end_written [] end all is (inl e) some few point last = absurd (omega (arith, some, ap length e))
  end_written (d ∷ ds) end all is (inl e) some few point last =
      let (low, high) = is_ascii_digit-range d (and_parts (is_ascii_digit d) (list_all is_ascii_digit ds) all).0 in
      let first : d ≡ 46 = sym (get_or-to_second d (ds ++ 90 ∷ []))
      ∙ (ap (λ z. get_or (to_second m ++ z) 14 0) (sym e) ∙ point) in
      absurd (omega (arith, low, first))
  end_written [] end all is (inr e) some few point last = absurd (omega (arith, some, ap length e))
  end_written (d ∷ ds) end all is (inr e) some few point last =
      let digits = d ∷ ds in
      let same : (to_second m ++ 46 ∷ []) ++ (digits ++ 90 ∷ []) ≡ to_second m ++ (46 ∷ (digits ++ 90 ∷ [])) = refl in
      let above : get_or digits (length digits - 1) 0 ≢ 48 =
      λ ends. last (ap (λ z. get_or (to_second m ++ z) (length (to_second m ++ z) - 2) 0) e
      ∙ (get_or-before_last (to_second m ++ 46 ∷ []) digits 90 (omega arith) ∙ ends)) in
      let size : length digits ≤ 9 = omega (arith, few, ap length e, length-append digits (90 ∷ [])) in
      let f = IsFraction-digits 8 tenth digits refl all (omega arith) size above in
      let written : written_fraction m.nanosecond ≡ 46 ∷ digits =
      ap written_fraction is
      ∙ (written_fraction-some (fraction_number tenth digits) f.some ∙ ap (λ z. 46 ∷ z) f.again) in
      e ∙ sym (ap (λ z. z ++ 90 ∷ []) written)

-- a fraction of nine digits at most, which a point begins and no 0 ends, is written as it is
pub GeneralizedTimeContents-with_fraction :
    (m : Moment) (contents : List ℕ) → GeneralizedTimeContents m contents → 16 < length contents →
    length contents ≤ 25 →
    get_or contents 14 0 ≡ 46 → get_or contents (length contents - 2) 0 ≢ 48 → contents ≡ generalized_time_contents m
GeneralizedTimeContents-with_fraction m contents p some few point last =
    let size : length contents ≡ 14 + length p.end = ap length p.octets ∙ length-to_second m p.end in
    let end = end_written m p.digits p.end p.is_end.0 p.nanosecond p.is_end.1 (omega (arith, some, size))
    (omega (arith, few, size))
    (ap (λ z. get_or z 14 0) (sym p.octets) ∙ point)
    (λ ends. last (ap (λ z. get_or z (length z - 2) 0) p.octets ∙ ends)) in
    p.octets ∙ ap (λ z. to_second m ++ z) end
