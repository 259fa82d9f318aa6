-- What is known of the contents octets of a UTCTime, for `contents::utc_time` and `asn1_blocks`.
use Rattle.std.proofs.Common.{◌≡◌, ℕ, ◌+◌, ◌-◌, ◌*◌, ◌/◌, ◌%◌, ◌<◌, ◌≤◌, ◌⊎◌, inl, inr, List, [], ◌∷◌, None, length, refl, sym, ap, ◌∙◌, subst, arith}
use Rattle.std.specs.Prelude.{if◌then◌else◌, nat_lt, pos, ◌≤ℤ◌, unsigned_abs, slice_index}
use Rattle.std.specs.List.{slice_range}
use Rattle.std.proofs.lemmas.Bool.Decides.{nat_tests}
use Rattle.std.proofs.lemmas.Int.{ints}
use Rattle.jiff_core.proofs.CalendarLemmas.{days_in_month_bounds}
use Rattle.asn1_leaves.specs.Inner.DigitFields.{IsSpelled, PairAt}
use Rattle.asn1_leaves.specs.Contents.Moment.{Moment, moment_write_fault}
use Rattle.asn1_leaves.specs.Contents.UtcTime.{IsFaithfulUtcTime, UtcTimeContents, UtcTimeFault, utc_time_contents, utc_time_fault}
use Rattle.asn1_headers.specs.Fault.{DecodeFault, IsOfReading}
use Rattle.asn1_leaves.proofs.Leaves.Known.{Known, Known-within, Known-lt, Known-octets}
use Rattle.asn1_leaves.proofs.Leaves.Digits.{Moment-same_fields, number_at, mul-add-two_digits, IsValid-known, moment_write_fault-valid}

-- octets that spell a moment by their places are those that are written of it
pub utc_time_contents-spelled :
    (contents : List ℕ) (year short : ℕ) (m : Moment) → length contents ≡ 13 → slice_index contents 12 ≡ 90 →
    PairAt contents 0 short
    → year % 100 ≡ short → IsSpelled year (slice_range contents 2 12) 0 m → contents ≡ utc_time_contents m
utc_time_contents-spelled (a ∷ b ∷ c ∷ d ∷ e ∷ f ∷ g ∷ h ∷ i ∷ j ∷ k ∷ l ∷ z ∷ []) year short m size ends p s q =
    let y : unsigned_abs m.year % 100 ≡ short = ap (λ x. unsigned_abs x % 100) q.year_is ∙ s in
    rw y (
    let a' = p.tens in let b' = p.units in
    let c' = q.month_at.tens in let d' = q.month_at.units in
    let e' = q.day_at.tens in let f' = q.day_at.units in
    let g' = q.hour_at.tens in let h' = q.hour_at.units in
    let i' = q.minute_at.tens in let j' = q.minute_at.units in
    let k' = q.second_at.tens in let l' = q.second_at.units in
    cc)
utc_time_contents-spelled contents year short m size ends p s q = absurd (omega (arith, size))

-- the year that two digits spell: from 1950 to 2049
full_year : ℕ → ℕ
full_year n = if nat_lt n 50 then 2000 + n else 1900 + n

-- the moment that twelve digits spell
abbrev utc_moment : List ℕ → Moment
utc_moment contents = record {
  year = pos (full_year (number_at contents 0));
  month = number_at contents 2;
  day = number_at contents 4;
  hour = number_at contents 6;
  minute = number_at contents 8;
  second = number_at contents 10;
  nanosecond = 0;
}

-- a full year is 1950 or later
full_year-ge : (n : ℕ) → 1950 ≤ full_year n
unfolding full_year
full_year-ge n = grind (arith, nat_tests)

-- the full year of a number below 100 is 2049 or earlier
full_year-le : (n : ℕ) → n < 100 → full_year n ≤ 2049
unfolding full_year
full_year-le n h = grind (arith, nat_tests, h)

-- the full year of a number below 100 has the number as its last two digits
full_year-ends : (n : ℕ) → n < 100 → full_year n % 100 ≡ n
unfolding full_year
full_year-ends n h = grind (arith, nat_tests, h)

-- a year from 1950 to 2049 is the full year of its last two digits
full_year-mod : (y n : ℕ) → 1950 ≤ y → y ≤ 2049 → n ≡ y % 100 → y ≡ full_year n
unfolding full_year
full_year-mod y n a b e = grind (arith, nat_tests, a, b, e)

-- where ten octets spell fields of each year, a UTCTime with them means a moment
pub UtcTimeContents-of_each_year :
    (contents : List ℕ) (short : ℕ) → length contents ≡ 13 → slice_index contents 12 ≡ 90 → PairAt contents 0 short →
    ((year : ℕ) → year ≤ 9999 → (m : Moment) × IsSpelled year (slice_range contents 2 12) 0 m) →
    (m : Moment) × UtcTimeContents m contents
UtcTimeContents-of_each_year contents short size ends pair fields =
    let from : 1950 ≤ full_year short = full_year-ge short in
    let to : full_year short ≤ 2049 = full_year-le short pair.small in
    let (m, spelled) = fields (full_year short) (omega (arith, to)) in
    let faithful : IsFaithfulUtcTime m = record {
      valid = spelled.valid;
      from_1950 = omega (arith, ints, spelled.year_is, from);
      to_2049 = omega (arith, ints, spelled.year_is, to);
      whole_second = spelled.nanosecond_is;
    } in
    let last = full_year-ends short pair.small in
    (m, (faithful, utc_time_contents-spelled contents (full_year short) short m size ends pair last spelled))

-- a faithful moment is that of the octets that are written of it
utc_moment-utc_time_contents : (m : Moment) → IsFaithfulUtcTime m → m ≡ utc_moment (utc_time_contents m)
utc_moment-utc_time_contents m f =
    let y = unsigned_abs m.year in
    let n : (48 + y % 100 / 10 - 48) * 10 + (48 + y % 100 % 10 - 48) ≡ y % 100 =
    mul-add-two_digits (y % 100) (omega arith) in
    let a : 1950 ≤ y = omega (arith, ints, f.from_1950) in
    let b : y ≤ 2049 = omega (arith, ints, f.to_2049, f.from_1950) in
    let g = full_year-mod y ((48 + y % 100 / 10 - 48) * 10 + (48 + y % 100 % 10 - 48)) a b n in
    let p : m.year ≡ pos y = omega (arith, ints, f.from_1950) in
    Moment-same_fields m (utc_moment (utc_time_contents m)) (p ∙ ap pos g)
    (sym (mul-add-two_digits m.month (omega (arith, f.valid.month))))
    (sym (mul-add-two_digits m.day (omega (arith, f.valid.day, days_in_month_bounds m.year m.month))))
    (sym (mul-add-two_digits m.hour (omega (arith, f.valid.hour))))
    (sym (mul-add-two_digits m.minute (omega (arith, f.valid.minute))))
    (sym (mul-add-two_digits m.second (omega (arith, f.valid.second)))) f.whole_second

-- the moment that contents octets mean is the moment that their digits spell
utc_moment-contents : (m : Moment) (contents : List ℕ) → UtcTimeContents m contents → m ≡ utc_moment contents
utc_moment-contents m contents p = utc_moment-utc_time_contents m p.0 ∙ ap utc_moment (sym p.1)

-- contents octets mean one moment
pub UtcTimeContents-unique : (m n : Moment) (contents : List ℕ) → UtcTimeContents m contents →
    UtcTimeContents n contents →
    m ≡ n
UtcTimeContents-unique m n contents p q = utc_moment-contents m contents p ∙ sym (utc_moment-contents n contents q)

-- the fault of contents octets that mean no moment is one of reading
pub UtcTimeFault-of_reading : (contents : List ℕ) (e : DecodeFault) → UtcTimeFault contents e → IsOfReading e
UtcTimeFault-of_reading contents e f = subst IsOfReading (sym f.1) tt

-- whether a moment from 1950 on without a fraction is faithful as a UTCTime is known
IsFaithfulUtcTime-known : (m : Moment) → pos 1950 ≤ℤ m.year → m.nanosecond ≡ 0 → Known (IsFaithfulUtcTime m)
IsFaithfulUtcTime-known m from whole =
    Known-within (IsValid-known m (omega (arith, ints, from))) (λ f. f.valid) (λ valid.
    Known-within (Known-lt (unsigned_abs m.year) 2050) (λ f. omega (arith, ints, f.to_2049, from)) (λ year.
    inl (record { valid = valid; from_1950 = from; to_2049 = omega (arith, ints, year, from); whole_second = whole })))

-- contents octets that do not mean the moment which their digits spell have a fault
UtcTimeFault-no_moment : (contents : List ℕ) → (UtcTimeContents (utc_moment contents) contents → ⊥) →
    (e : DecodeFault) × UtcTimeFault contents e
UtcTimeFault-no_moment contents no_m = (
  utc_time_fault contents,
  ((λ n p. no_m (subst (λ z. UtcTimeContents z contents) (utc_moment-contents n contents p) p)), refl),
)

-- contents octets mean a moment, or have a fault of a UTCTime
pub UtcTimeContents-or_fault : (contents : List ℕ) →
    ((m : Moment) × UtcTimeContents m contents) ⊎ ((e : DecodeFault) × UtcTimeFault contents e)
UtcTimeContents-or_fault contents =
    let m = utc_moment contents in
    let from : pos 1950 ≤ℤ m.year = omega (arith, ints, full_year-ge (number_at contents 0)) in
    elim (IsFaithfulUtcTime-known m from refl) [
      | inr no_f ↦ inr (UtcTimeFault-no_moment contents (λ p. no_f p.0))
      | inl f ↦ elim (Known-octets contents (utc_time_contents m))
          [ inl e ↦ inl (m, (f, e)) | inr no_e ↦ inr (UtcTimeFault-no_moment contents (λ p. no_e p.1)) ]
    ]

-- a moment that was read can be written
pub moment_write_fault-utc_time_read : (m : Moment) (contents : List ℕ) → UtcTimeContents m contents →
    moment_write_fault m ≡ None
moment_write_fault-utc_time_read m contents p = moment_write_fault-valid m p.0.valid

-- what is written of a faithful moment means it
pub UtcTimeContents-written : (m : Moment) → IsFaithfulUtcTime m → UtcTimeContents m (utc_time_contents m)
UtcTimeContents-written m f = (f, refl)

-- a faithful moment can be written
pub moment_write_fault-faithful_utc_time : (m : Moment) → IsFaithfulUtcTime m → moment_write_fault m ≡ None
moment_write_fault-faithful_utc_time m f = moment_write_fault-valid m f.valid

-- a moment is faithful where what is written means it
pub IsFaithfulUtcTime-written : (m : Moment) → moment_write_fault m ≡ None → UtcTimeContents m (utc_time_contents m) →
    IsFaithfulUtcTime m
IsFaithfulUtcTime-written m w p = p.0

-- a moment that was read is faithful
pub IsFaithfulUtcTime-read : (m : Moment) (contents : List ℕ) → UtcTimeContents m contents → IsFaithfulUtcTime m
IsFaithfulUtcTime-read m contents p = p.0
