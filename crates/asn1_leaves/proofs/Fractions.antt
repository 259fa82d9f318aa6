-- Fractions of a second that do not end in 0, for `contents::generalized_time::are_clearly_canonical` and `asn1_laws`.
use Rattle.std.proofs.Common.{◌≡◌, ◌≢◌, ℕ, zero, suc, ◌+◌, ◌-◌, ◌*◌, ◌/◌, ◌%◌, ◌<◌, ◌≤◌, ◌^◌, true, List, [], ◌∷◌, ◌⊎◌, inl, inr, length, get_or, refl, sym, ap, ap₂, ◌∙◌, arith, mul-le-mul_right, sub-one, ◌++◌, length-append}
use Rattle.std.specs.Char.{is_ascii_digit}
use Rattle.std.specs.List.{list_all}
use Rattle.std.proofs.Math.Nat.{pow-succ'}
use Rattle.std.proofs.lemmas.Bool.{and_parts}
use Rattle.std.proofs.lemmas.Bool.Decides.{nat_tests}
use Rattle.std.proofs.lemmas.Nat.{div-mul-add, mod-mul-add}
use Rattle.asn1_leaves.specs.Contents.GeneralizedTime.{fraction_digits, fraction_number}
use Rattle.asn1_leaves.proofs.Leaves.Digits.{fraction_digits-zero, fraction_digits-step, pow-positive}
use Rattle.std.proofs.lemmas.List.{get_or-append-add, get_or_append_left}

-- the character of a digit is from 48 to 57
pub is_ascii_digit-range : (d : ℕ) → is_ascii_digit d ≡ true → (48 ≤ d) × (d ≤ 57)
is_ascii_digit-range d t = (grind (arith, nat_tests, t), grind (arith, nat_tests, t))

-- the last of octets is that of all but the first
pub get_or-last_cons : (b c : ℕ) (octets : List ℕ) →
    get_or (b ∷ c ∷ octets) (length (b ∷ c ∷ octets) - 1) 0 ≡ get_or (c ∷ octets) (length (c ∷ octets) - 1) 0
get_or-last_cons b c octets = simp sub-one

-- where digits stand before the last octet, the octet before it is the last digit
pub get_or-before_last : (front digits : List ℕ) (z : ℕ) → 0 < length digits →
    get_or (front ++ (digits ++ z ∷ [])) (length (front ++ (digits ++ z ∷ [])) - 2) 0
    ≡ get_or digits (length digits - 1) 0
get_or-before_last front digits z some =
    let size = length-append front (digits ++ z ∷ []) in
    let more = length-append digits (z ∷ []) in
    let place : length (front ++ (digits ++ z ∷ [])) - 2 ≡ length front + (length digits - 1) =
    omega (arith, size, more, some) in
    ap (λ i. get_or (front ++ (digits ++ z ∷ [])) i 0) place
    ∙ (get_or-append-add front (digits ++ z ∷ []) (length digits - 1) 0
    ∙ get_or_append_left digits (z ∷ []) 0 (length digits - 1) (omega (arith, some)))

-- digits that mean a number, which has these digits
pub record IsFraction (k unit : ℕ) (digits : List ℕ) : Type 0 where
  pub some : 0 < fraction_number unit digits
  pub below : fraction_number unit digits < 10 * unit
  pub again : fraction_digits (suc k) unit (fraction_number unit digits) ≡ digits

-- the digits of a number are that of its quotient by the unit, and those of what is left over
fraction_digits-quotient :
    (k unit q m n d : ℕ) (ds : List ℕ) → 0 < unit → n ≡ q * unit + m → m < unit → 0 < n → d ≡ 48 + q →
    fraction_digits k (unit / 10) m ≡ ds → fraction_digits (suc k) unit n ≡ d ∷ ds
fraction_digits-quotient k unit q m n d ds positive e small some is rest =
    let high : n / unit ≡ q = ap (λ z. z / unit) e ∙ div-mul-add q unit m small in
    let low : n % unit ≡ m = ap (λ z. z % unit) e ∙ mod-mul-add q unit m small in
    let places : suc k - 1 ≡ k = omega arith in
    fraction_digits-step (suc k) unit n (omega arith) some
    ∙ ap₂ (λ x y. x ∷ y) (ap (λ z. 48 + z) high ∙ sym is)
    (ap (λ j. fraction_digits j (unit / 10) (n % unit)) places ∙ (ap (λ z. fraction_digits k (unit / 10) z) low ∙ rest))

-- at most nine units, and less than one unit more, are below ten units
mul-add-lt : (q m unit n : ℕ) → q ≤ 9 → n ≡ q * unit + m → m < unit → n < 10 * unit
mul-add-lt q m unit n few e small =
    let bound : q * unit ≤ 9 * unit = mul-le-mul_right unit few in
    omega (arith, bound, e, small)

-- units and what is left over are above 0 together if one of them is
mul-add-positive : (q m unit n : ℕ) → 0 < unit → (0 < q) ⊎ (0 < m) → n ≡ q * unit + m → 0 < n
mul-add-positive q m unit n positive (inl some) e =
    let bound : 1 * unit ≤ q * unit = mul-le-mul_right unit some in
    omega (arith, bound, e, positive)
mul-add-positive q m unit n positive (inr some) e = omega (arith, e, some)

-- digits that do not end in 0, at most as many as there are places, are those of the number that they mean
pub IsFraction-digits :
    (k unit : ℕ) (digits : List ℕ) → unit ≡ 10 ^ k → list_all is_ascii_digit digits ≡ true → 0 < length digits →
    length digits ≤ suc k →
    get_or digits (length digits - 1) 0 ≢ 48 → IsFraction k unit digits
IsFraction-digits k unit [] e all some few last = absurd (omega (arith, some))
IsFraction-digits k unit (d ∷ []) e all some few last =
    let (low, high) = is_ascii_digit-range d (and_parts (is_ascii_digit d) (list_all is_ascii_digit []) all).0 in
    let positive : 0 < unit = omega (arith, e, pow-positive k) in
    let n = fraction_number unit (d ∷ []) in
    let is : n ≡ (d - 48) * unit + 0 = refl in
    let other : d ≢ 48 = last in
    let above : 0 < d - 48 = omega (arith, low, other) in
    let more : 0 < n = mul-add-positive (d - 48) 0 unit n positive (inl above) is in
    record {
      some = more;
      below = mul-add-lt (d - 48) 0 unit n (omega (arith, high)) is positive;
      again = fraction_digits-quotient k unit (d - 48) 0 n d [] positive is positive more (omega (arith, low))
          (fraction_digits-zero k (unit / 10));
    }
IsFraction-digits zero unit (d ∷ c ∷ ds) e all some few last = absurd (omega (arith, few))
IsFraction-digits (suc k) unit (d ∷ c ∷ ds) e all some few last =
    let parts = and_parts (is_ascii_digit d) (list_all is_ascii_digit (c ∷ ds)) all in
    let (low, high) = is_ascii_digit-range d parts.0 in
    let ten : unit ≡ 10 * 10 ^ k = e ∙ pow-succ' 10 k in
    let tenth : unit / 10 ≡ 10 ^ k = omega (arith, ten) in
    let positive : 0 < unit = omega (arith, ten, pow-positive k) in
    let i = IsFraction-digits k (unit / 10) (c ∷ ds) tenth parts.1 (omega arith) (omega (arith, few))
    (λ ends. last (get_or-last_cons d c ds ∙ ends)) in
    let m = fraction_number (unit / 10) (c ∷ ds) in
    let n = fraction_number unit (d ∷ c ∷ ds) in
    let is : n ≡ (d - 48) * unit + m = refl in
    let small : m < unit = omega (arith, i.below, tenth, ten) in
    let more : 0 < n = mul-add-positive (d - 48) m unit n positive (inr i.some) is in
    record {
      some = more;
      below = mul-add-lt (d - 48) m unit n (omega (arith, high)) is small;
      again = fraction_digits-quotient (suc k) unit (d - 48) m n d (c ∷ ds) positive is small more (omega (arith, low))
          i.again;
    }

-- the digits of a number are at most as many as the places
pub length-fraction_digits-le : (k unit n : ℕ) → length (fraction_digits k unit n) ≤ k
length-fraction_digits-le zero unit n = omega arith
length-fraction_digits-le (suc k) unit zero = omega arith
length-fraction_digits-le (suc k) unit (suc n) = omega (arith, length-fraction_digits-le k (unit / 10) (suc n % unit))
