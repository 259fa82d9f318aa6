-- The shortest forms of headers are such forms, and no others are shorter or as short, for all that writes headers or
-- says whether they are the shortest.
use Rattle.std.proofs.Common.{◌≡◌, ◌≢◌, ℕ, zero, suc, ◌+◌, ◌*◌, ◌/◌, ◌%◌, ◌^◌, ◌<◌, ◌≤◌, Bool, List, [], ◌∷◌, ◌++◌, inl, inr, length, get_or, map, refl, sym, ap, ◌∙◌, subst, arith, length-append, append_assoc, append-nil}
use Rattle.std.specs.Int.Digits.{digits_of, AllBelowBase, number_from_digits, number_from_digits_after}
use Rattle.std.specs.List.{All}
use Rattle.std.proofs.Math.Nat.{pow-suc}
use Rattle.std.proofs.lemmas.List.{length-map}
use Rattle.std.proofs.lemmas.List.Elements.{All-head, All-drop, recursion_from_All}
use Rattle.std.proofs.lemmas.Nat.{div-mul-add, mod-mul-add}
use Rattle.std.proofs.lemmas.Int.Digits.{first_digits_of, number_digits_of, number_push, number_lt, all_below_base_digits_of, length-digits_of-le}
use Rattle.std.proofs.lemmas.Bool.{cases_lt, cond_below, cond_above}
use Rattle.asn1_headers.specs.declared.header.ASN1Class.{ASN1Class}
use Rattle.asn1_numbers.specs.Octets.{AreOctets}
use Rattle.asn1_numbers.specs.Base128.{IsBase128, IsContinued, shortest_base128}
use Rattle.asn1_numbers.specs.Inner.Natural.{HasNoLeadingZeros}
use Rattle.asn1_headers.specs.Header.{IsIdentifier, IsLength, leading_octet, shortest_identifier, shortest_length}
use Rattle.asn1_numbers.proofs.Base128Digits.{HasNoLeadingZeros-push}
use Rattle.asn1_numbers.proofs.Base128Forms.{length-shortest_base128-some_digits}
use Rattle.asn1_headers.proofs.Fronts.{IsContinued-cons, IsIdentifier-long}
use Rattle.asn1_headers.proofs.Prefixes.{IsIdentifier-not_empty}

-- digits with bit 8 set, and a last octet below 128, are continued octets
IsContinued-marked : (ds : List ℕ) (d : ℕ) → d < 128 → IsContinued (map (λ d. 128 + d) ds ++ d ∷ [])
IsContinued-marked [] d h = h
IsContinued-marked (e ∷ ds) d h =
    IsContinued-cons (128 + e) (map (λ d. 128 + d) ds ++ d ∷ []) (omega arith) (IsContinued-marked ds d h)

-- the low bits of digits with bit 8 set, and of a last digit, are these digits
map-low_bits-marked : (ds : List ℕ) (d : ℕ) → AllBelowBase 128 ds → d < 128
    → map (λ b. b % 128) (map (λ d. 128 + d) ds ++ d ∷ []) ≡ ds ++ d ∷ []
map-low_bits-marked [] d all h =
    let e : d % 128 ≡ d = omega (arith, h) in
    cc
map-low_bits-marked (a ∷ ds) d all h =
    let e : (128 + a) % 128 ≡ a = omega (arith, all.0) in
    let t = map-low_bits-marked ds d all.1 h in
    cc

-- the shortest form of a base-128 number is a base-128 number
pub IsBase128-shortest : (n : ℕ) → IsBase128 (shortest_base128 n) n
IsBase128-shortest n =
    let ds = digits_of 128 (n / 128) in
    let last : n % 128 < 128 = omega arith in
    let low = map-low_bits-marked ds (n % 128) (all_below_base_digits_of 128 (n / 128) (omega arith)) last in
    record {
      continued = IsContinued-marked ds (n % 128) last;
      value = omega (
        arith,
        ap (number_from_digits 128) low,
        number_push 128 ds (n % 128),
        number_digits_of 128 (n / 128) (omega arith),
      );
    }

-- the shortest length octets are length octets
pub IsLength-shortest : (n : ℕ) → n < 2 ^ 64 → IsLength (shortest_length n) n
IsLength-shortest n h =
    let ds = digits_of 256 n in
    let long = (128 + length ds) ∷ ds in
    elim (cases_lt n 128) [
      | inl lt ↦ subst (λ s. IsLength s n) (cond_below n 128 (n ∷ []) long lt) (inl (lt, refl, refl))
      | inr ge ↦ subst (λ s. IsLength s n) (cond_above n 128 (n ∷ []) long long ge refl)
          (inr (refl, length-digits_of-le 256 8 n (omega arith) h, sym (number_digits_of 256 n (omega arith))))
    ]

-- the shortest identifier octets are identifier octets
pub IsIdentifier-shortest : (c : ASN1Class) (k : Bool) (n : ℕ) → IsIdentifier (shortest_identifier c k n) c k n
IsIdentifier-shortest c k n =
    let short = leading_octet c k n ∷ [] in
    let long = leading_octet c k 31 ∷ shortest_base128 n in
    elim (cases_lt n 31) [
      | inl lt ↦ subst (λ s. IsIdentifier s c k n) (cond_below n 31 short long lt) (lt, refl)
      | inr ge ↦ subst (λ s. IsIdentifier s c k n) (cond_above n 31 short long long ge refl)
          (IsIdentifier-long (leading_octet c k 31) (shortest_base128 n) c k n refl (IsBase128-shortest n))
    ]

-- low bits are base-128 digits
pub AllBelowBase-low_bits : (octets : List ℕ) → AllBelowBase 128 (map (λ b. b % 128) octets)
AllBelowBase-low_bits [] = tt
AllBelowBase-low_bits (b ∷ octets) = (omega arith, AllBelowBase-low_bits octets)

-- the shortest form of a base-128 number has an octet more than its quotient by 128 has digits
pub length-shortest_base128 : (n : ℕ) → length (shortest_base128 n) ≡ 1 + length (digits_of 128 (n / 128))
length-shortest_base128 n =
    let ds = digits_of 128 (n / 128) in
    omega (arith, length-append (map (λ d. 128 + d) ds) (n % 128 ∷ []), length-map ds (λ d. 128 + d))

-- no octets of the same base-128 number are fewer
pub length-shortest_base128_le : (octets : List ℕ) (n : ℕ) → IsBase128 octets n
    → length (shortest_base128 n) ≤ length octets
length-shortest_base128_le [] n p = absurd p.continued
length-shortest_base128_le (b ∷ octets) n p =
    let low = map (λ b. b % 128) (b ∷ octets) in
    let below = number_lt 128 low (AllBelowBase-low_bits (b ∷ octets)) in
    let size : length low ≡ suc (length octets) = length-map (b ∷ octets) (λ b. b % 128) in
    let power : 128 ^ length low ≡ 128 ^ length octets * 128 = ap (λ k. 128 ^ k) size ∙ pow-suc 128 (length octets) in
    let few : n / 128 < 128 ^ length octets = omega (arith, below, power, p.value) in
    omega (arith, length-shortest_base128 n, length-digits_of-le 128 (length octets) (n / 128) (omega arith) few)

-- no identifier octets of the same fields are fewer
pub length-shortest_identifier_le : (octets : List ℕ) (c : ASN1Class) (k : Bool) (n : ℕ) → IsIdentifier octets c k n
    → length (shortest_identifier c k n) ≤ length octets
length-shortest_identifier_le octets c k n p =
    let short = leading_octet c k n ∷ [] in
    let long = leading_octet c k 31 ∷ shortest_base128 n in
    elim (cases_lt n 31) [
      | inl lt ↦
          subst (λ s. length s ≤ length octets) (cond_below n 31 short long lt)
          (omega (arith, IsIdentifier-not_empty octets c k n p))
      | inr ge ↦ subst (λ s. length s ≤ length octets) (cond_above n 31 short long long ge refl) (long_le octets p ge)
    ]
  where
    -- identifier octets of a tag number of 31 or above are more than the shortest base-128 octets of the number
    long_le : (octets : List ℕ) → IsIdentifier octets c k n → 31 ≤ n → suc (length (shortest_base128 n)) ≤ length octets
    long_le [] q h = absurd q
    long_le (b ∷ []) q h = absurd (omega (arith, q.0, h))
    long_le (b ∷ d ∷ octets) q h = omega (arith, length-shortest_base128_le (d ∷ octets) n q.1)

-- no length octets of the same length are fewer
pub length-shortest_length_le : (octets : List ℕ) (n : ℕ) → All (λ b. b < 256) octets → IsLength octets n
    → length (shortest_length n) ≤ length octets
length-shortest_length_le [] n all p = absurd p
length-shortest_length_le (b ∷ octets) n all p =
    let ds = digits_of 256 n in
    let long = (128 + length ds) ∷ ds in
    elim (cases_lt n 128) [
      | inl lt ↦ subst (λ s. length s ≤ length (b ∷ octets)) (cond_below n 128 (n ∷ []) long lt) (omega arith)
      | inr ge ↦
          subst (λ s. length s ≤ length (b ∷ octets)) (cond_above n 128 (n ∷ []) long long ge refl) (long_le p ge)
    ]
  where
    -- the octets behind the first length octet are below 256
    below : AllBelowBase 256 octets
    below = (recursion_from_All (λ b. b < 256) (b ∷ octets) all).1

    -- length octets of a length of 128 or above are more than the digits of the length in base 256
    long_le : IsLength (b ∷ octets) n → 128 ≤ n → suc (length (digits_of 256 n)) ≤ suc (length octets)
    long_le (inl (small, _, e)) h = absurd (omega (arith, small, e, h))
    long_le (inr (_, _, e)) h =
        let small : n < 256 ^ length octets =
        subst (λ z. z < 256 ^ length octets) (sym e) (number_lt 256 octets below) in
        omega (arith, length-digits_of-le 256 (length octets) n (omega arith) small)

-- where as many digits after two numbers give the same number, the digits and the two numbers are the same
number_from_digits_after-injective : (b m n : ℕ) (xs ys : List ℕ) → AllBelowBase b xs → AllBelowBase b ys
    → length xs ≡ length ys
    → number_from_digits_after b m xs ≡ number_from_digits_after b n ys → (m ≡ n) × (xs ≡ ys)
number_from_digits_after-injective b m n [] [] p q l e = (e, refl)
number_from_digits_after-injective b m n [] (y ∷ ys) p q l e = absurd (omega (arith, l))
number_from_digits_after-injective b m n (x ∷ xs) [] p q l e = absurd (omega (arith, l))
number_from_digits_after-injective b m n (x ∷ xs) (y ∷ ys) p q l e =
    let f = number_from_digits_after-injective b (m * b + x) (n * b + y) xs ys p.1 q.1 (omega (arith, l)) e in
    let quotient : m ≡ n = sym (div-mul-add m b x p.0) ∙ ap (λ k. k / b) f.0 ∙ div-mul-add n b y q.0 in
    let digit : x ≡ y = sym (mod-mul-add m b x p.0) ∙ ap (λ k. k % b) f.0 ∙ mod-mul-add n b y q.0 in
    let rest : xs ≡ ys = f.1 in
    (quotient, cc)

-- as many continued octets with the same bits 7 to 1 are the same
IsContinued-same_low_bits : (xs ys : List ℕ) → IsContinued xs → IsContinued ys → AllBelowBase 256 xs
    → AllBelowBase 256 ys
    → length xs ≡ length ys
    → map (λ b. b % 128) xs ≡ map (λ b. b % 128) ys → xs ≡ ys
IsContinued-same_low_bits [] ys p q s t l e = absurd p
IsContinued-same_low_bits (x ∷ xs) [] p q s t l e = absurd q
IsContinued-same_low_bits (x ∷ []) (y ∷ []) p q s t l e =
    let low : x % 128 ≡ y % 128 = cc in
    let same : x ≡ y = omega (arith, low, p, q) in
    cc
IsContinued-same_low_bits (x ∷ []) (y ∷ d ∷ ys) p q s t l e = absurd (omega (arith, l))
IsContinued-same_low_bits (x ∷ c ∷ xs) (y ∷ []) p q s t l e = absurd (omega (arith, l))
IsContinued-same_low_bits (x ∷ c ∷ xs) (y ∷ d ∷ ys) p q s t l e =
    let low : x % 128 ≡ y % 128 = cc in
    let same : x ≡ y = omega (arith, low, p.0, q.0, s.0, t.0) in
    let lows : map (λ b. b % 128) (c ∷ xs) ≡ map (λ b. b % 128) (d ∷ ys) = cc in
    let rest = IsContinued-same_low_bits (c ∷ xs) (d ∷ ys) p.1 q.1 s.1 t.1 (omega (arith, l)) lows in
    cc

-- digits with bit 8 set, and a last octet, are octets
AllBelowBase-marked : (ds : List ℕ) (d : ℕ) → AllBelowBase 128 ds → d < 128
    → AllBelowBase 256 (map (λ d. 128 + d) ds ++ d ∷ [])
AllBelowBase-marked [] d all h = (omega (arith, h), tt)
AllBelowBase-marked (a ∷ ds) d all h = (omega (arith, all.0), AllBelowBase-marked ds d all.1 h)

-- no other octets of the same base-128 number are as short
pub shortest_base128-only : (octets : List ℕ) (n : ℕ) → All (λ b. b < 256) octets → IsBase128 octets n
    → length octets ≤ length (shortest_base128 n) → octets ≡ shortest_base128 n
shortest_base128-only octets n all p few =
    let short = shortest_base128 n in
    let q = IsBase128-shortest n in
    let size : length octets ≡ length short = omega (arith, few, length-shortest_base128_le octets n p) in
    let small =
    AllBelowBase-marked (digits_of 128 (n / 128)) (n % 128) (all_below_base_digits_of 128 (n / 128) (omega arith))
    (omega arith) in
    let digits : length (map (λ b. b % 128) octets) ≡ length (map (λ b. b % 128) short) =
    length-map octets (λ b. b % 128) ∙ size ∙ sym (length-map short (λ b. b % 128)) in
    let low =
    number_from_digits_after-injective 128 0 0 (map (λ b. b % 128) octets) (map (λ b. b % 128) short)
    (AllBelowBase-low_bits octets) (AllBelowBase-low_bits short) digits (sym p.value ∙ q.value) in
    IsContinued-same_low_bits octets short p.continued q.continued (recursion_from_All _ _ all) small size low.1

-- no other identifier octets of the same fields are as short
pub shortest_identifier-only : (octets : List ℕ) (c : ASN1Class) (k : Bool) (n : ℕ) → All (λ b. b < 256) octets
    → IsIdentifier octets c k n
    → length octets ≤ length (shortest_identifier c k n) → octets ≡ shortest_identifier c k n
shortest_identifier-only octets c k n all p few =
    let short = leading_octet c k n ∷ [] in
    let long = leading_octet c k 31 ∷ shortest_base128 n in
    elim (cases_lt n 31) [
      | inl lt ↦
          subst (λ s. length octets ≤ length s → octets ≡ s) (cond_below n 31 short long lt) (short_only octets p) few
      | inr ge ↦
          subst (λ s. length octets ≤ length s → octets ≡ s) (cond_above n 31 short long long ge refl)
          (long_only octets all p ge) few
    ]
  where
    -- identifier octets that are a single octet are the leading octet with the tag number
    short_only : (octets : List ℕ) → IsIdentifier octets c k n → length octets ≤ 1 → octets ≡ leading_octet c k n ∷ []
    short_only [] q h = absurd q
    short_only (b ∷ []) q h = ap (λ b. b ∷ []) q.1
    short_only (b ∷ d ∷ octets) q h = absurd (omega (arith, h))

    -- identifier octets of a tag number of 31 or above are the shortest if they are no more than these
    long_only : (octets : List ℕ) → All (λ b. b < 256) octets → IsIdentifier octets c k n → 31 ≤ n
        → length octets ≤ suc (length (shortest_base128 n))
        → octets ≡ leading_octet c k 31 ∷ shortest_base128 n
    long_only [] small q ge h = absurd q
    long_only (b ∷ []) small q ge h = absurd (omega (arith, q.0, ge))
    long_only (b ∷ d ∷ octets) small q ge h =
        let leading : b ≡ leading_octet c k 31 = q.0 in
        let rest =
        shortest_base128-only (d ∷ octets) n (All-drop (λ b. b < 256) 1 (b ∷ d ∷ octets) small) q.1
        (omega (arith, h)) in
        cc

-- no other length octets of the same length are as short, but that 80 (hexadecimal) is as short as 00
pub shortest_length-only : (octets : List ℕ) (n : ℕ) → All (λ b. b < 256) octets → octets ≢ 128 ∷ [] → IsLength octets n
    → length octets ≤ length (shortest_length n) → octets ≡ shortest_length n
shortest_length-only [] n all other p few = absurd p
shortest_length-only (b ∷ octets) n all other p few =
    let ds = digits_of 256 n in
    let long = (128 + length ds) ∷ ds in
    elim (cases_lt n 128) [
      | inl lt ↦
          subst (λ s. length (b ∷ octets) ≤ length s → b ∷ octets ≡ s) (cond_below n 128 (n ∷ []) long lt)
          (short_only octets other p) few
      | inr ge ↦ subst (λ s. length s ≤ length (b ∷ octets) → length (b ∷ octets) ≤ length s → b ∷ octets ≡ s)
          (cond_above n 128 (n ∷ []) long long ge refl) (long_only p ge)
          (length-shortest_length_le (b ∷ octets) n all p) few
    ]
  where
    -- a single length octet, other than 80 (hexadecimal), is the length itself
    short_only : (octets : List ℕ) → b ∷ octets ≢ 128 ∷ [] → IsLength (b ∷ octets) n → suc (length octets) ≤ 1
        → b ∷ octets ≡ n ∷ []
    short_only [] other (inl (_, _, e)) h = ap (λ b. b ∷ []) (sym e)
    short_only [] other (inr q) h = absurd (other (ap (λ b. b ∷ []) q.0))
    short_only (c ∷ octets) other q h = absurd (omega (arith, h))

    -- length octets of a length of 128 or above are the shortest if they are as many as these
    long_only : IsLength (b ∷ octets) n → 128 ≤ n → suc (length (digits_of 256 n)) ≤ suc (length octets)
        → suc (length octets) ≤ suc (length (digits_of 256 n))
        → b ∷ octets ≡ (128 + length (digits_of 256 n)) ∷ digits_of 256 n
    long_only (inl (small, _, e)) ge least few = absurd (omega (arith, small, e, ge))
    long_only (inr (size, _, e)) ge least few =
        let small = (recursion_from_All (λ b. b < 256) (b ∷ octets) all).1 in
        let same =
        (number_from_digits_after-injective 256 0 0 octets (digits_of 256 n) small
        (all_below_base_digits_of 256 n (omega arith)) (omega (
          arith,
          least,
          few,
        )) (sym e ∙ sym (number_digits_of 256 n (omega arith)))).1 in
        let first : b ≡ 128 + length octets = size in
        cc

-- with bit 8 set, a digit above 0 is not 80 (hexadecimal)
marked-not_80 : (ds rest : List ℕ) (d : ℕ) → 0 < get_or ds 0 0 → map (λ d. 128 + d) ds ++ d ∷ [] ≢ 128 ∷ rest
marked-not_80 [] rest d some e = omega (arith, some)
marked-not_80 (a ∷ ds) rest d some e =
    let first : 128 + a ≡ 128 = cc in
    omega (arith, some, first)

-- the shortest base-128 number does not begin with 80 (hexadecimal)
pub shortest_base128-not_80 : (n : ℕ) (rest : List ℕ) → shortest_base128 n ≢ 128 ∷ rest
shortest_base128-not_80 n rest = leading (n / 128) (n % 128) (omega arith)
  where
    -- the digits of a number with bit 8 set, and a last octet below 80 (hexadecimal), do not begin with 80
    leading : (front last : ℕ) → last < 128 → map (λ d. 128 + d) (digits_of 128 front) ++ last ∷ [] ≢ 128 ∷ rest
    leading zero last h e =
        let first : last ≡ 128 = cc in
        omega (arith, h, first)
    leading (suc front) last h e =
        marked-not_80 (digits_of 128 (suc front)) rest last
        (first_digits_of 128 (suc front) (omega arith) (omega arith)) e

-- digits that begin with digits without leading zeros have no leading zeros
HasNoLeadingZeros-append : (front ds : List ℕ) → HasNoLeadingZeros front → 0 < length front → AllBelowBase 128 ds
    → HasNoLeadingZeros (front ++ ds)
HasNoLeadingZeros-append front [] short some all = subst HasNoLeadingZeros (sym (append-nil front)) short
HasNoLeadingZeros-append front (d ∷ ds) short some all =
    let more : 0 < length (front ++ d ∷ []) = omega (arith, length-append front (d ∷ [])) in
    subst HasNoLeadingZeros (append_assoc front (d ∷ []) ds)
    (HasNoLeadingZeros-append (front ++ d ∷ []) ds (HasNoLeadingZeros-push front d short all.0 (inr some)) more all.1)

-- octets of a base-128 number that do not begin with 80 (hexadecimal) are the shortest
pub shortest_base128-without_80 :
    (octets : List ℕ) (n : ℕ) → AreOctets octets → IsBase128 octets n →
    ((rest : List ℕ) → octets ≢ 128 ∷ rest) → octets ≡ shortest_base128 n
shortest_base128-without_80 [] n all p other = absurd p.continued
shortest_base128-without_80 (b ∷ []) n all p other =
    shortest_base128-only (b ∷ []) n all p (omega (arith, length-shortest_base128 n))
shortest_base128-without_80 (b ∷ c ∷ octets) n all p other =
    let below : b < 256 = All-head (λ b. b < 256) b (c ∷ octets) all in
    let not : b ≢ 128 = λ e. other (c ∷ octets) (ap (λ z. z ∷ c ∷ octets) e) in
    let some : 0 < b % 128 = omega (arith, below, not, p.continued.0) in
    let low = map (λ b. b % 128) (b ∷ c ∷ octets) in
    let first : HasNoLeadingZeros (b % 128 ∷ []) = HasNoLeadingZeros-push [] (b % 128) refl (omega arith) (inl some) in
    let short : low ≡ digits_of 128 n =
    HasNoLeadingZeros-append (b % 128 ∷ []) (map (λ b. b % 128) (c ∷ octets)) first (omega arith)
    (AllBelowBase-low_bits (c ∷ octets))
    ∙
    ap (digits_of 128) (sym p.value) in
    let size : length low ≡ length (b ∷ c ∷ octets) = length-map (b ∷ c ∷ octets) (λ b. b % 128) in
    let many : length (shortest_base128 n) ≡ length (digits_of 128 n) =
    length-shortest_base128-some_digits n (omega (arith, ap length short, size)) in
    shortest_base128-only (b ∷ c ∷ octets) n all p (omega (arith, many, ap length short, size))
