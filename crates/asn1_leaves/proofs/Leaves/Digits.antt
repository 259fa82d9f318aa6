-- Two digits, fields of two digits, and the digits of a fraction, for `contents::generalized_time`,
-- `contents::utc_time` and `contents::moment`.
use Rattle.std.proofs.Common.{◌≡◌, ℕ, zero, suc, ◌+◌, ◌-◌, ◌*◌, ◌/◌, ◌%◌, ◌^◌, ◌<◌, ◌≤◌, ◌==◌, ◌++◌, true, inl, inr, List, [], ◌∷◌, length, refl, sym, ap, ◌∙◌, subst, arith, length-append}
use Rattle.std.specs.Int.{IsInRange}
use Rattle.std.specs.Prelude.{ℤ, pos, negsuc, ◌≤ℤ◌, unsigned_abs, slice_index, Option, Some, None, IfNone}
use Rattle.std.specs.Char.{is_ascii_digit}
use Rattle.std.specs.List.{list_all}
use Rattle.std.proofs.Math.Nat.{div-lt_iff_lt-mul, pow-succ'}
use Rattle.std.proofs.lemmas.Bool.{false≢true, and_from, cases_Bool, eqb-true}
use Rattle.std.proofs.lemmas.Bool.Decides.{nat_tests}
use Rattle.std.proofs.lemmas.Int.{ints}
use Rattle.std.proofs.lemmas.List.{append_cancel_right}
use Rattle.std.proofs.lemmas.Nat.{div-add-mod'}
use Rattle.jiff_core.specs.Calendar.{days_in_month}
use Rattle.jiff_core.proofs.CalendarLemmas.{days_in_month_bounds}
use Rattle.asn1_leaves.specs.Inner.DigitFields.{FollowsPoint, IsPair, IsSpelled, PairAt, pair_number}
use Rattle.asn1_leaves.specs.Contents.Moment.{Moment, IsValid, moment_write_fault, year_write_fault}
use Rattle.asn1_leaves.specs.Contents.GeneralizedTime.{IsEnd, fraction_number, fraction_digits}
use Rattle.asn1_leaves.proofs.Leaves.Known.{Known, Known-within, Known-lt, Known-IsInRange}

-- what holds where there is no value can be replaced by what follows from it
pub IfNone-map : {X P Q : Type 0} (r : Option X) → IfNone r P → (P → Q) → IfNone r Q
IfNone-map None p f = f p
IfNone-map (Some x) p f = p

-- the characters of the tens and of the units of a number below 100 are its two digits
pub IsPair-two_digits : (n : ℕ) → n < 100 → IsPair (48 + n / 10) (48 + n % 10) n
IsPair-two_digits n h = record { small = h; tens = refl; units = refl }

-- two digits are those of their number
pub IsPair-digits : (a b : ℕ) → 48 ≤ a → a < 58 → 48 ≤ b → b < 58 → IsPair a b (pair_number a b)
IsPair-digits a b f g h i = record { small = omega arith; tens = omega arith; units = omega arith }

-- fields of two digits with a day that each month has are those of a moment of each year
pub IsSpelled-day_of_each_month :
    (year : ℕ) (octets : List ℕ) (month day hour minute second : ℕ) → year ≤ 9999 →
    PairAt octets 0 month → PairAt octets 2 day → PairAt octets 4 hour → PairAt octets 6 minute →
    PairAt octets 8 second →
    IsInRange 1 12 month → IsInRange 1 28 day → hour < 24 → minute < 60 → second < 60 →
    (m : Moment) × IsSpelled year octets 0 m
IsSpelled-day_of_each_month year octets month day hour minute second digits a b c d e m n h i s = (
  record {
    year = pos year;
    month = month;
    day = day;
    hour = hour;
    minute = minute;
    second = second;
    nanosecond = 0;
  },
  record {
    valid = record {
      from_zero = omega (arith, ints);
      four_digits = omega (arith, ints, digits);
      month = m;
      day = (n.0, omega (arith, n.1, days_in_month_bounds (pos year) month));
      hour = h;
      minute = i;
      second = s;
      nanosecond = omega arith;
    };
    year_is = refl;
    month_at = a;
    day_at = b;
    hour_at = c;
    minute_at = d;
    second_at = e;
    nanosecond_is = refl;
  },
)

-- moments of the same fields are the same
Moment-same_numbers :
    (y y' : ℤ) (a a' b b' c c' d d' e e' f f' : ℕ) → y ≡ y' → a ≡ a' → b ≡ b' → c ≡ c' → d ≡ d' → e ≡ e' → f ≡ f'
    → ◌≡◌ {A = Moment}
    (record { year = y; month = a; day = b; hour = c; minute = d; second = e; nanosecond = f })
    (record { year = y'; month = a'; day = b'; hour = c'; minute = d'; second = e'; nanosecond = f' })
Moment-same_numbers y y' a a' b b' c c' d d' e e' f f' p q r s t u v = cc

pub Moment-same_fields :
    (m n : Moment) → m.year ≡ n.year → m.month ≡ n.month → m.day ≡ n.day → m.hour ≡ n.hour → m.minute ≡ n.minute →
    m.second ≡ n.second
    → m.nanosecond ≡ n.nanosecond → m ≡ n
Moment-same_fields m n a b c d e f g =
    Moment-same_numbers
    m.year n.year m.month n.month m.day n.day m.hour n.hour m.minute n.minute m.second n.second m.nanosecond
    n.nanosecond a b c d e f g

-- digits hold no point
pub digits_begin_with_no_point : (f r : List ℕ) → list_all is_ascii_digit f ≡ true → f ≡ 46 ∷ r → ⊥
digits_begin_with_no_point f r a e =
    let w = subst (λ z. list_all is_ascii_digit z ≡ true) e a in
    false≢true w

-- the digits before Z are those after the point, if there is a point
pub IsEnd-digits : (end front digits f : List ℕ) → end ≡ front ++ 90 ∷ [] → FollowsPoint front digits → IsEnd f end →
    digits ≡ f
IsEnd-digits end front digits f e (inl p) (a, inl q) =
    let h : front ≡ f = append_cancel_right front f (90 ∷ []) (sym e ∙ q) in
    absurd (digits_begin_with_no_point f digits a (sym h ∙ p))
IsEnd-digits end front digits f e (inl p) (a, inr q) =
    let h : front ≡ 46 ∷ f = append_cancel_right front (46 ∷ f) (90 ∷ []) (sym e ∙ q) in
    cc
IsEnd-digits end front digits f e (inr p) (a, inl q) = p.0 ∙ append_cancel_right front f (90 ∷ []) (sym e ∙ q)
IsEnd-digits end front digits f e (inr p) (a, inr q) =
    absurd (p.1 f (append_cancel_right front (46 ∷ f) (90 ∷ []) (sym e ∙ q)))

-- the end of a time has one list of digits
pub IsEnd-unique : (end f g : List ℕ) → IsEnd f end → IsEnd g end → f ≡ g
IsEnd-unique end f g (a, inl p) t = IsEnd-digits end f f g p (inr (refl, λ r e. digits_begin_with_no_point f r a e)) t
IsEnd-unique end f g (a, inr p) t = IsEnd-digits end (46 ∷ f) f g p (inl refl) t

-- each power of 10 is above 0
pub pow-positive : (k : ℕ) → 0 < 10 ^ k
pow-positive zero = omega arith
pow-positive (suc k) = omega (arith, pow-positive k, pow-succ' 10 k)

-- the leading digit of a number below ten units is at most 9
pub div-unit-le : (n unit : ℕ) → 0 < unit → n < 10 * unit → n / unit ≤ 9
div-unit-le n unit p h = omega (arith, (div-lt_iff_lt-mul {k = unit} {x = n} {y = 10} p).1 h)

-- the character of a number up to 9 is a digit
is_ascii_digit-digit : (d : ℕ) → d ≤ 9 → is_ascii_digit (48 + d) ≡ true
is_ascii_digit-digit d h = grind (arith, nat_tests)

-- the digits of a number are digits, and mean it
pub fraction_number-fraction_digits :
    (k unit n : ℕ) → unit ≡ 10 ^ k → n < 10 * unit
    → (list_all is_ascii_digit (fraction_digits (suc k) unit n) ≡ true) ×
    (fraction_number unit (fraction_digits (suc k) unit n) ≡ n)
fraction_number-fraction_digits zero unit zero e h = (refl, refl)
fraction_number-fraction_digits zero unit (suc n) e h =
    let one : unit ≡ 1 = e in
    rw one (and_from _ _ (is_ascii_digit-digit (suc n / 1) (omega (arith, h, one))) refl, omega (arith, h, one))
fraction_number-fraction_digits (suc k) unit zero e h = (refl, refl)
fraction_number-fraction_digits (suc k) unit (suc n) e h =
    let m = suc n in
    let t : unit ≡ 10 * 10 ^ k = e ∙ pow-succ' 10 k in
    let d : unit / 10 ≡ 10 ^ k = omega (arith, t) in
    let some : 0 < unit = omega (arith, t, pow-positive k) in
    let q : m / unit ≤ 9 = div-unit-le m unit some h in
    let r : m % unit < 10 * (unit / 10) = omega (arith, t, d, some) in
    let i = fraction_number-fraction_digits k (unit / 10) (m % unit) d r in
    let w : (48 + m / unit - 48) * unit ≡ m / unit * unit = ap (λ z. z * unit) (omega arith) in
    let rest = fraction_digits (suc k) (unit / 10) (m % unit) in (
      and_from _ _ (is_ascii_digit-digit (m / unit) q) i.0,
      ap (λ z. z + fraction_number (unit / 10) rest) w ∙ (ap (λ z. m / unit * unit + z) i.1 ∙ div-add-mod' m unit),
    )

-- the digits of a number are its leading digit, and those of what is left over
pub fraction_digits-step :
    (places unit n : ℕ) → 0 < places → 0 < n
    → fraction_digits places unit n ≡ (48 + n / unit) ∷ fraction_digits (places - 1) (unit / 10) (n % unit)
fraction_digits-step zero unit n h l = absurd (omega (arith, h))
fraction_digits-step (suc k) unit zero h l = absurd (omega (arith, l))
fraction_digits-step (suc k) unit (suc n) h l =
    ap (λ z. (48 + suc n / unit) ∷ fraction_digits z (unit / 10) (suc n % unit)) {x = k} {y = suc k - 1} (omega arith)

-- there are no digits where nothing is left
pub fraction_digits-zero : (places unit : ℕ) → fraction_digits places unit 0 ≡ []
fraction_digits-zero zero unit = refl
fraction_digits-zero (suc k) unit = refl

-- the digit at so many places from the end counts a power of 10, and the next digit a tenth of it
pub unit_of_next_place :
    (places unit : ℕ) → 0 < places → unit * 10 ≡ 10 ^ places
    → (unit ≡ 10 ^ (places - 1)) × (0 < unit) × (0 < places - 1 → unit / 10 * 10 ≡ 10 ^ (places - 1))
unit_of_next_place zero unit h e = absurd (omega (arith, h))
unit_of_next_place (suc zero) unit h e =
    let one : unit ≡ 1 = omega (arith, e) in
    (one, omega (arith, one), λ l. absurd (omega (arith, l)))
unit_of_next_place (suc (suc j)) unit h e =
    let t : unit ≡ 10 ^ suc j = omega (arith, e, pow-succ' 10 (suc j)) in
    let u : 10 ^ suc j ≡ 10 * 10 ^ j = pow-succ' 10 j in
    let v : suc j ≡ suc (suc j) - 1 = omega arith in (
      t ∙ ap (λ z. 10 ^ z) v,
      omega (arith, t, pow-positive (suc j)),
      λ l. let w : unit / 10 * 10 ≡ unit = omega (arith, t, u) in w
          ∙ (t ∙ ap (λ z. 10 ^ z) v),
    )

-- the number of the two digits at a place
abbrev pub number_at : List ℕ → ℕ → ℕ
number_at octets place = pair_number (slice_index octets place) (slice_index octets (place + 1))

-- a number below 100 is read again from the characters of its two digits
pub mul-add-two_digits : (n : ℕ) → n < 100 → (48 + n / 10 - 48) * 10 + (48 + n % 10 - 48) ≡ n
mul-add-two_digits n h = omega arith

-- a moment from year 0 on is known to be valid or not
pub IsValid-known : (m : Moment) → pos 0 ≤ℤ m.year → Known (IsValid m)
IsValid-known m from_zero =
    Known-within (Known-lt (unsigned_abs m.year) 10000) (λ v. omega (arith, ints, v.four_digits, v.from_zero))
    (λ year.
    Known-within (Known-IsInRange 1 12 m.month) (λ v. v.month) (λ month.
    Known-within (Known-IsInRange 1 (days_in_month m.year m.month) m.day) (λ v. v.day) (λ day.
    Known-within (Known-lt m.hour 24) (λ v. v.hour) (λ hour.
    Known-within (Known-lt m.minute 60) (λ v. v.minute) (λ minute.
    Known-within (Known-lt m.second 60) (λ v. v.second) (λ second.
    Known-within (Known-lt m.nanosecond 1000000000) (λ v. v.nanosecond) (λ nanosecond.
    inl (record {
      from_zero = from_zero;
      four_digits = omega (arith, ints, year, from_zero);
      month = month;
      day = day;
      hour = hour;
      minute = minute;
      second = second;
      nanosecond = nanosecond;
    }))))))))

-- a year from 0 on can be written
year_write_fault-none : (y : ℤ) → pos 0 ≤ℤ y → year_write_fault y ≡ None
year_write_fault-none (pos n) h = refl
year_write_fault-none (negsuc n) h = absurd (omega (arith, ints, h))

-- nothing keeps a valid moment from being written
pub moment_write_fault-valid : (m : Moment) → IsValid m → moment_write_fault m ≡ None
moment_write_fault-valid m v = year_write_fault-none m.year v.from_zero

-- a list is empty or has a last element
data Last (xs : List ℕ) : Type 0 where
  empty : xs ≡ [] → Last xs
  ends_in : (front : List ℕ) (z : ℕ) → xs ≡ front ++ z ∷ [] → Last xs

-- each list of numbers is empty or has a last element
Last-total : (xs : List ℕ) → Last xs
Last-total [] = empty refl
Last-total (x ∷ xs) = elim (Last-total xs) [
  | empty e ↦ ends_in [] x (ap (λ z. x ∷ z) e)
  | ends_in front z e ↦ ends_in (x ∷ front) z (ap (λ y. x ∷ y) e)
]

-- what follows the point that octets begin with, or the octets if they begin with none
FollowsPoint-some : (front : List ℕ) → (digits : List ℕ) × FollowsPoint front digits
FollowsPoint-some [] = ([], inr (refl, λ r e. cc))
FollowsPoint-some (c ∷ r) = elim (cases_Bool (c == 46)) [
  | inl e ↦ let h : c ≡ 46 = eqb-true c 46 e in (r, inl (ap (λ z. z ∷ r) h))
  | inr e ↦ (c ∷ r, inr (refl, λ s f. let h : c ≡ 46 = cc in false≢true (sym e ∙ ap (λ z. z == 46) h)))
]

-- a list has one last element
append_last-same : (f g : List ℕ) (y z : ℕ) → f ++ y ∷ [] ≡ g ++ z ∷ [] → y ≡ z
append_last-same [] [] y z e = cc
append_last-same [] (b ∷ g) y z e = absurd (omega (arith, ap length e, length-append g (z ∷ [])))
append_last-same (a ∷ f) [] y z e = absurd (omega (arith, ap length e, length-append f (y ∷ [])))
append_last-same (a ∷ f) (b ∷ g) y z e = let t : f ++ y ∷ [] ≡ g ++ z ∷ [] = cc in append_last-same f g y z t

-- octets that do not end in Z are no end of a time
IsEnd-not_nil : (f : List ℕ) → IsEnd f [] → ⊥
IsEnd-not_nil f (a, inl q) = omega (arith, ap length q, length-append f (90 ∷ []))
IsEnd-not_nil f (a, inr q) = omega (arith, ap length q)

IsEnd-not_without_Z : (front f : List ℕ) (z : ℕ) → (z ≡ 90 → ⊥) → IsEnd f (front ++ z ∷ []) → ⊥
IsEnd-not_without_Z front f z n (a, inl q) = n (append_last-same front f z 90 q)
IsEnd-not_without_Z front f z n (a, inr q) = n (append_last-same front (46 ∷ f) z 90 q)

-- digits before Z, with a point before them or none, are the end of a time
IsEnd-after_point : (end front digits : List ℕ) → list_all is_ascii_digit digits ≡ true → end ≡ front ++ 90 ∷ []
    → FollowsPoint front digits → IsEnd digits end
IsEnd-after_point end front digits a e (inl p) = (a, inr (e ∙ ap (λ z. z ++ 90 ∷ []) p))
IsEnd-after_point end front digits a e (inr p) = (a, inl (e ∙ ap (λ z. z ++ 90 ∷ []) (sym p.0)))

-- octets are known to be the end of a time or not
pub IsEnd-known : (end : List ℕ) → Known ((digits : List ℕ) × IsEnd digits end)
IsEnd-known end = elim (Last-total end) [
  | empty e ↦ inr (λ d. IsEnd-not_nil d.0 (subst (IsEnd d.0) e d.1))
  | ends_in front z e ↦ elim (cases_Bool (z == 90)) [
    | inr n ↦ inr (λ d. IsEnd-not_without_Z front d.0 z (λ h. false≢true (sym n ∙ ap (λ y. y == 90) h))
        (subst (IsEnd d.0) e d.1))
    | inl y ↦
        let (digits, follow) = FollowsPoint-some front in
        let e' : end ≡ front ++ 90 ∷ [] = e ∙ ap (λ x. front ++ x ∷ []) (eqb-true z 90 y) in
        elim (cases_Bool (list_all is_ascii_digit digits)) [
          | inl a ↦ inl (digits, IsEnd-after_point end front digits a e' follow)
          | inr n ↦ inr (λ d. let (others, is_end) = d in
              let same : digits ≡ others = IsEnd-digits end front digits others e' follow is_end in
              false≢true (sym n ∙ (ap (list_all is_ascii_digit) same ∙ is_end.0)))
        ]
  ]
]
