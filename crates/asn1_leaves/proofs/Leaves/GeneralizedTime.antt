-- What is known of the contents octets of a GeneralizedTime, for `contents::generalized_time`, `asn1_blocks` and
-- `asn1_laws`.
use Rattle.std.proofs.Common.{◌≡◌, ℕ, zero, suc, ◌+◌, ◌-◌, ◌*◌, ◌/◌, ◌%◌, ◌<◌, ◌≤◌, ◌==◌, ◌++◌, ◌⊎◌, true, false, inl, inr, None, List, [], ◌∷◌, length, take, drop, replicate, refl, sym, ap, ◌∙◌, subst, arith}
use Rattle.std.specs.Prelude.{if◌then◌else◌, pos, decimal, unsigned_abs, IsAscii, IsUtf8}
use Rattle.std.specs.Char.{is_ascii}
use Rattle.std.specs.List.{list_all, list_any, slice_range}
use Rattle.std.specs.Str.{is_utf8}
use Rattle.std.proofs.lemmas.Bool.{false≢true, cases_Bool, cases_lt, and_parts}
use Rattle.std.proofs.lemmas.Bool.Decides.{nat_tests}
use Rattle.std.proofs.lemmas.Int.{ints}
use Rattle.std.proofs.lemmas.List.{take-append-drop}
use Rattle.std.proofs.lemmas.Str.{IsAscii-append, IsAscii-take, IsAscii-drop, IsUtf8-from_ascii, IsUtf8-from_is_utf8, is_utf8-from_IsUtf8}
use Rattle.std.proofs.lemmas.Str.Ascii.{IsAscii-nil, IsAscii-cons}
use Rattle.jiff_core.proofs.CalendarLemmas.{days_in_month_bounds}
use Rattle.asn1_leaves.specs.Inner.DigitFields.{IsSpelled, PairAt}
use Rattle.asn1_leaves.specs.Contents.Moment.{Moment, IsValid, moment_write_fault}
use Rattle.asn1_leaves.specs.Contents.GeneralizedTime.{GeneralizedTimeContents, GeneralizedTimeFault, IsEnd, IsFaithfulGeneralizedTime, fraction_digits, fraction_number, generalized_time_contents, generalized_time_fault, tenth, to_second, with_point, with_zeros, written_fraction}
use Rattle.asn1_headers.specs.Fault.{DecodeFault, IsOfReading, invalid_date_value, utf8_fault}
use Rattle.asn1_leaves.proofs.Leaves.Known.{Known-octets}
use Rattle.asn1_leaves.proofs.Leaves.Digits.{IsEnd-unique, IsEnd-known, fraction_number-fraction_digits, Moment-same_fields, number_at, mul-add-two_digits, IsPair-two_digits, IsValid-known, moment_write_fault-valid}

-- fourteen octets by place are those of the moment
pub to_second-spelled :
    (second : List ℕ) (high low n : ℕ) (m : Moment) → length second ≡ 14 → PairAt second 0 high → PairAt second 2 low
    → IsSpelled (high * 100 + low) (slice_range second 4 14) n m → second ≡ to_second m
to_second-spelled (a ∷ b ∷ c ∷ d ∷ e ∷ f ∷ g ∷ h ∷ i ∷ j ∷ k ∷ l ∷ x ∷ y ∷ []) high low n m size hi lo q =
    let y1 : unsigned_abs m.year ≡ high * 100 + low = ap unsigned_abs q.year_is in
    let y2 : unsigned_abs m.year / 100 ≡ high = omega (arith, y1, lo.small) in
    let y3 : unsigned_abs m.year % 100 ≡ low = omega (arith, y1, lo.small) in
    rw (y2, y3) (
    let a' = hi.tens in let b' = hi.units in
    let c' = lo.tens in let d' = lo.units in
    let e' = q.month_at.tens in let f' = q.month_at.units in
    let g' = q.day_at.tens in let h' = q.day_at.units in
    let i' = q.hour_at.tens in let j' = q.hour_at.units in
    let k' = q.minute_at.tens in let l' = q.minute_at.units in
    let x' = q.second_at.tens in let y' = q.second_at.units in
    cc)
to_second-spelled second high low n m size hi lo q = absurd (omega (arith, size))

-- digits that spell a moment to the second are at each place those of its fields
pub IsSpelled-to_second :
    (second : List ℕ) (high low n : ℕ) (m : Moment) → IsValid m → m.nanosecond ≡ n → second ≡ to_second m →
    PairAt second 0 high
    → PairAt second 2 low → IsSpelled (high * 100 + low) (slice_range second 4 14) n m
IsSpelled-to_second second high low n m v f e hi lo =
    let hi' = subst (λ z. PairAt z 0 high) e hi in
    let lo' = subst (λ z. PairAt z 2 low) e lo in
    let y : unsigned_abs m.year ≤ 9999 = omega (arith, ints, v) in
    let y1 : high ≡ unsigned_abs m.year / 100 = omega (arith, hi', y) in
    let y2 : low ≡ unsigned_abs m.year % 100 = omega (arith, lo') in
    let y3 : unsigned_abs m.year ≡ high * 100 + low = omega (arith, y1, y2) in
    rw e (record {
      valid = v;
      year_is = omega (arith, ints, v, y3);
      month_at = IsPair-two_digits m.month (omega (arith, v));
      day_at = IsPair-two_digits m.day (omega (arith, v, days_in_month_bounds m.year m.month));
      hour_at = IsPair-two_digits m.hour (omega (arith, v));
      minute_at = IsPair-two_digits m.minute (omega (arith, v));
      second_at = IsPair-two_digits m.second (omega (arith, v));
      nanosecond_is = f;
    })

-- octets of which each is ASCII are ASCII
pub IsAscii-list_all : (cs : List ℕ) → list_all is_ascii cs ≡ true → IsAscii cs
IsAscii-list_all [] e = IsAscii-nil
IsAscii-list_all (c ∷ cs) e =
    let p = and_parts (is_ascii c) (list_all is_ascii cs) e in
    IsAscii-cons c cs (grind (arith, nat_tests, p.0)) (IsAscii-list_all cs p.1)

-- zeros are ASCII, however many
IsAscii-zeros : (n : ℕ) → IsAscii (replicate n 48)
IsAscii-zeros zero = IsAscii-nil
IsAscii-zeros (suc n) = IsAscii-cons 48 (replicate n 48) (omega arith) (IsAscii-zeros n)

-- a text of ASCII is ASCII with a point behind its fourteenth character, unless it has a point
IsAscii-with_point : (text : List ℕ) → IsAscii text → IsAscii (with_point text)
IsAscii-with_point text a = elim (list_any (λ c. c == 46) text) as
    (λ b. IsAscii (if b then text else take 14 text ++ (46 ∷ drop 14 text))) [
      | true ↦ a
      | false ↦ IsAscii-append (take 14 text) (46 ∷ drop 14 text) (IsAscii-take text 14 a)
          (IsAscii-cons 46 (drop 14 text) (omega arith) (IsAscii-drop text 14 a))
    ]

-- a text of ASCII is ASCII with zeros added before its last character
IsAscii-with_zeros : (text : List ℕ) → IsAscii text → IsAscii (with_zeros text)
IsAscii-with_zeros text a =
    let last = length text - 1 in
    let z = IsAscii-append (replicate (25 - length text) 48) (drop last text) (IsAscii-zeros (25 - length text))
    (IsAscii-drop text last a) in
    IsAscii-append (take last text) (replicate (25 - length text) 48 ++ drop last text) (IsAscii-take text last a) z

-- a text of ASCII in the longer form, with a point and zeros, is UTF-8
pub IsUtf8-longer_form : (text : List ℕ) → list_all is_ascii text ≡ true → IsUtf8 (with_zeros (with_point text))
IsUtf8-longer_form text e =
    IsUtf8-from_ascii (with_zeros (with_point text))
    (IsAscii-with_zeros (with_point text) (IsAscii-with_point text (IsAscii-list_all text e)))

-- the faults of at least 15 octets: no UTF-8, no ASCII, or no moment
pub utf8_fault-not_utf8 : (contents : List ℕ) → 15 ≤ length contents → (IsUtf8 contents → ⊥) →
    utf8_fault contents ≡ generalized_time_fault contents
utf8_fault-not_utf8 contents h f = elim (cases_Bool (is_utf8 contents)) [
  | inl e ↦ absurd (f (IsUtf8-from_is_utf8 contents e))
  | inr e ↦ grind (arith, nat_tests, h, e)
]

pub invalid_date_value-not_ascii :
    (contents : List ℕ) → 15 ≤ length contents → IsUtf8 contents → list_all is_ascii contents ≡ false
    → invalid_date_value contents ≡ generalized_time_fault contents
invalid_date_value-not_ascii contents h u a = let e = is_utf8-from_IsUtf8 contents u in
    grind (arith, nat_tests, h, e, a)

pub invalid_date_value-ascii :
    (contents : List ℕ) → 15 ≤ length contents → IsUtf8 contents → list_all is_ascii contents ≡ true
    → invalid_date_value (with_zeros (with_point contents)) ≡ generalized_time_fault contents
invalid_date_value-ascii contents h u a = let e = is_utf8-from_IsUtf8 contents u in grind (arith, nat_tests, h, e, a)

-- the moment that fourteen digits spell
abbrev second_moment : List ℕ → ℕ → Moment
second_moment second n = record {
  year = pos (number_at second 0 * 100 + number_at second 2);
  month = number_at second 4;
  day = number_at second 6;
  hour = number_at second 8;
  minute = number_at second 10;
  second = number_at second 12;
  nanosecond = n;
}

-- a moment is that of the octets that are written of it, with its nanoseconds
second_moment-to_second : (m : Moment) → IsValid m → m ≡ second_moment (to_second m) m.nanosecond
second_moment-to_second m v =
    let y = unsigned_abs m.year in
    let top : y ≤ 9999 = omega (arith, ints, v.four_digits, v.from_zero) in
    let high = mul-add-two_digits (y / 100) (omega (arith, top)) in
    let low = mul-add-two_digits (y % 100) (omega arith) in
    let octets = to_second m in
    let sum : y ≡ number_at octets 0 * 100 + number_at octets 2 = omega (arith, high, low) in
    let p : m.year ≡ pos y = omega (arith, ints, v.from_zero) in
    Moment-same_fields m (second_moment (to_second m) m.nanosecond) (p ∙ ap pos sum)
    (sym (mul-add-two_digits m.month (omega (arith, v.month))))
    (sym (mul-add-two_digits m.day (omega (arith, v.day, days_in_month_bounds m.year m.month))))
    (sym (mul-add-two_digits m.hour (omega (arith, v.hour))))
    (sym (mul-add-two_digits m.minute (omega (arith, v.minute))))
    (sym (mul-add-two_digits m.second (omega (arith, v.second))))
    refl

-- contents octets mean the moment of their first fourteen, with the fraction after them
second_moment-contents :
    (m : Moment) (contents digits : List ℕ) → GeneralizedTimeContents m contents → IsEnd digits (drop 14 contents)
    → m ≡ second_moment (take 14 contents) (fraction_number tenth digits)
second_moment-contents m contents digits p d =
    let e : drop 14 contents ≡ p.end = ap (drop 14) p.octets in
    let f : p.digits ≡ digits =
    IsEnd-unique (drop 14 contents) p.digits digits (subst (λ z. IsEnd p.digits z) (sym e) p.is_end) d in
    let n : m.nanosecond ≡ fraction_number tenth digits = p.nanosecond ∙ ap (fraction_number tenth) f in
    let t : to_second m ≡ take 14 contents = sym (ap (take 14) p.octets) in
    second_moment-to_second m p.valid
    ∙ (ap (λ z. second_moment z m.nanosecond) t ∙ ap (second_moment (take 14 contents)) n)

-- where contents octets mean a moment, the octets behind the first fourteen are the end of a time with its digits
IsEnd-contents : (m : Moment) (contents : List ℕ) (p : GeneralizedTimeContents m contents) →
    IsEnd p.digits (drop 14 contents)
IsEnd-contents m contents p = subst (λ z. IsEnd p.digits z) (sym (ap (drop 14) p.octets)) p.is_end

-- contents octets mean one moment
pub GeneralizedTimeContents-unique : (m n : Moment) (contents : List ℕ) → GeneralizedTimeContents m contents →
    GeneralizedTimeContents n contents → m ≡ n
GeneralizedTimeContents-unique m n contents p q =
    let d = IsEnd-contents m contents p in
    second_moment-contents m contents p.digits p d ∙ sym (second_moment-contents n contents p.digits q d)

-- the fault of contents octets that mean no moment is one of reading
IsOfReading-generalized_time_fault : (contents : List ℕ) → IsOfReading (generalized_time_fault contents)
IsOfReading-generalized_time_fault contents = elim (cases_lt (length contents) 15) [
  | inl l ↦
      let e : generalized_time_fault contents ≡ invalid_date_value (decimal (length contents)) =
      grind (arith, nat_tests, l) in
      subst IsOfReading (sym e) tt
  | inr h ↦ elim (cases_Bool (is_utf8 contents)) [
    | inr f ↦ subst IsOfReading
        (utf8_fault-not_utf8 contents h (λ u. false≢true (sym f ∙ is_utf8-from_IsUtf8 contents u))) tt
    | inl u ↦ elim (cases_Bool (list_all is_ascii contents)) [
      | inl a ↦ subst IsOfReading (invalid_date_value-ascii contents h (IsUtf8-from_is_utf8 contents u) a) tt
      | inr a ↦ subst IsOfReading (invalid_date_value-not_ascii contents h (IsUtf8-from_is_utf8 contents u) a) tt
    ]
  ]
]

-- each fault of a GeneralizedTime is one of reading
pub GeneralizedTimeFault-of_reading : (contents : List ℕ) (e : DecodeFault) → GeneralizedTimeFault contents e →
    IsOfReading e
GeneralizedTimeFault-of_reading contents e f = subst IsOfReading (sym f.1) (IsOfReading-generalized_time_fault contents)

-- contents octets that mean no moment have a fault
GeneralizedTimeFault-no_moment : (contents : List ℕ) → ((m : Moment) → GeneralizedTimeContents m contents → ⊥) →
    (e : DecodeFault) × GeneralizedTimeFault contents e
GeneralizedTimeFault-no_moment contents none = (generalized_time_fault contents, (none, refl))

-- contents octets mean a moment, or have a fault of a GeneralizedTime
pub GeneralizedTimeContents-or_fault : (contents : List ℕ)
    → ((m : Moment) × GeneralizedTimeContents m contents) ⊎ ((e : DecodeFault) × GeneralizedTimeFault contents e)
GeneralizedTimeContents-or_fault contents = elim (IsEnd-known (drop 14 contents)) [
  | inr no_end ↦ inr (GeneralizedTimeFault-no_moment contents (λ n p. no_end (p.digits, IsEnd-contents n contents p)))
  | inl d ↦
      let m = second_moment (take 14 contents) (fraction_number tenth d.0) in
      elim (IsValid-known m (omega (arith, ints))) [
        | inr no_v ↦ inr (GeneralizedTimeFault-no_moment contents
            (λ n p. no_v (subst IsValid (second_moment-contents n contents d.0 p d.1) p.valid)))
        | inl v ↦ elim (Known-octets (take 14 contents) (to_second m)) [
          | inr no_s ↦ inr (GeneralizedTimeFault-no_moment contents
              (λ n p. no_s (ap (take 14) p.octets ∙ ap to_second (second_moment-contents n contents d.0 p d.1))))
          | inl s ↦ inl (
            m,
            record {
              valid = v;
              digits = d.0;
              end = drop 14 contents;
              octets = sym (take-append-drop 14 contents) ∙ ap (λ z. z ++ drop 14 contents) s;
              is_end = d.1;
              nanosecond = refl;
            },
          )
        ]
      ]
]

-- a moment that was read can be written
pub moment_write_fault-generalized_time_read : (m : Moment) (contents : List ℕ) → GeneralizedTimeContents m contents →
    moment_write_fault m ≡ None
moment_write_fault-generalized_time_read m contents p = moment_write_fault-valid m p.valid

-- a number of nanoseconds that is not 0 is written as a point and its digits without zeros at the end
pub written_fraction-some : (n : ℕ) → 0 < n → written_fraction n ≡ 46 ∷ fraction_digits 9 tenth n
written_fraction-some n h = grind (arith, nat_tests, h)

-- the fraction that is written, with Z, is the end of a time whose digits mean the nanoseconds
IsEnd-written_fraction : (n : ℕ) → n < 1000000000 →
    (digits : List ℕ) × IsEnd digits (written_fraction n ++ (90 ∷ [])) × (n ≡ fraction_number tenth digits)
IsEnd-written_fraction zero h = ([], (refl, inl refl), refl)
IsEnd-written_fraction (suc n) h =
    let i = fraction_number-fraction_digits 8 tenth (suc n) refl h in
    let e = written_fraction-some (suc n) (omega arith) in
    (fraction_digits 9 tenth (suc n), (i.0, inr (ap (λ z. z ++ (90 ∷ [])) e)), sym i.1)

-- contents octets that are written of a faithful moment mean it
pub GeneralizedTimeContents-written : (m : Moment) → IsFaithfulGeneralizedTime m →
    GeneralizedTimeContents m (generalized_time_contents m)
GeneralizedTimeContents-written m v =
    let (digits, ends, is) = IsEnd-written_fraction m.nanosecond v.nanosecond in
    record {
      valid = v;
      digits = digits;
      end = written_fraction m.nanosecond ++ (90 ∷ []);
      octets = refl;
      is_end =
          ends;
      nanosecond = is;
    }

-- a faithful moment can be written
pub moment_write_fault-faithful_generalized_time : (m : Moment) → IsFaithfulGeneralizedTime m →
    moment_write_fault m ≡ None
moment_write_fault-faithful_generalized_time m v = moment_write_fault-valid m v

-- a moment is faithful where what is written means it
pub IsFaithfulGeneralizedTime-written : (m : Moment) → moment_write_fault m ≡ None →
    GeneralizedTimeContents m (generalized_time_contents m)
    → IsFaithfulGeneralizedTime m
IsFaithfulGeneralizedTime-written m w p = p.valid

-- a moment that was read is faithful
pub IsFaithfulGeneralizedTime-read : (m : Moment) (contents : List ℕ) → GeneralizedTimeContents m contents →
    IsFaithfulGeneralizedTime m
IsFaithfulGeneralizedTime-read m contents p = p.valid
