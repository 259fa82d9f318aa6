-- Octets at the front of a slice that are, or are not, identifier and length octets, for `header`.
use Rattle.std.proofs.Common.{◌≡◌, ℕ, zero, suc, ◌+◌, ◌*◌, ◌%◌, ◌^◌, ◌<◌, ◌≤◌, List, [], ◌∷◌, length, get_or, take, arith}
use Rattle.std.specs.Int.Digits.{digits_of}
use Rattle.std.proofs.lemmas.Int.Digits.{length-digits_of-le}
use Rattle.std.proofs.Math.Nat.{pow-le-pow_right}
use Rattle.asn1_numbers.specs.Base128.{IsContinued, IsBase128}
use Rattle.asn1_headers.specs.Header.{BeginsWithNo, IsSomeIdentifier}

-- octets up to the first whose bit 8 is clear are continued octets
pub IsContinued-take : (octets : List ℕ) (i : ℕ) → i < length octets → get_or octets i 0 < 128
    → ((j : ℕ) → j < i → 128 ≤ get_or octets j 0)
    → IsContinued (take (suc i) octets)
IsContinued-take [] i h lt high = absurd (omega (arith, h))
IsContinued-take (b ∷ []) zero h lt high = lt
IsContinued-take (b ∷ c ∷ octets) zero h lt high = lt
IsContinued-take (b ∷ []) (suc i) h lt high = absurd (omega (arith, h))
IsContinued-take (b ∷ c ∷ octets) (suc i) h lt high = (
  high 0 (omega arith),
  IsContinued-take (c ∷ octets) i (omega (arith, h)) lt
      (λ j l. high (suc j) (omega (arith, l))),
)

-- octets whose bit 8 is always set end no number
pub IsContinued-not_high : (octets : List ℕ) (k : ℕ) → ((j : ℕ) → j < length octets → 128 ≤ get_or octets j 0)
    → IsContinued (take k octets) → ⊥
IsContinued-not_high [] zero high e = e
IsContinued-not_high [] (suc k) high e = e
IsContinued-not_high (b ∷ octets) zero high e = e
IsContinued-not_high (b ∷ []) (suc zero) high e = omega (arith, e, high 0 (omega arith))
IsContinued-not_high (b ∷ []) (suc (suc k)) high e = omega (arith, e, high 0 (omega arith))
IsContinued-not_high (b ∷ c ∷ octets) (suc zero) high e = omega (arith, e, high 0 (omega arith))
IsContinued-not_high (b ∷ c ∷ octets) (suc (suc k)) high e =
    IsContinued-not_high (c ∷ octets) (suc k) (λ j l. high (suc j) (omega (arith, l))) e.1

-- a leading octet that announces a base-128 number, with none behind it, begins no identifier octets
pub BeginsWithNo-long_identifier : (b : ℕ) (rest : List ℕ) → b % 32 ≡ 31 → BeginsWithNo IsBase128 rest
    → BeginsWithNo IsSomeIdentifier (b ∷ rest)
BeginsWithNo-long_identifier b rest low missing n k = go rest k low missing
  where
    -- octets at the front are no identifier octets if the leading one ends in 31 and no base-128 number is behind it
    go : (rest : List ℕ) (k : ℕ) → b % 32 ≡ 31 → BeginsWithNo IsBase128 rest → IsSomeIdentifier (take k (b ∷ rest)) n
        → ⊥
    go rest zero low missing (c, k, t) = t
    go [] (suc zero) low missing (c, k, t) = omega (arith, t.0, t.1, low)
    go [] (suc (suc i)) low missing (c, k, t) = omega (arith, t.0, t.1, low)
    go (d ∷ rest) (suc zero) low missing (c, k, t) = omega (arith, t.0, t.1, low)
    go (d ∷ rest) (suc (suc i)) low missing (c, k, t) = missing n (suc i) t.1

-- a length below 2^64 has at most eight octets
pub length-octets_le : (n : ℕ) → n < 2 ^ 64 → length (digits_of 256 n) ≤ 8
length-octets_le n h = length-digits_of-le 256 8 n (omega arith) h

-- fewer than eight octets leave room for one more
pub room_for_octet : (n i : ℕ) → n < 256 ^ i → i < 8 → n * 256 + 255 < 2 ^ 64
room_for_octet n i h lt =
    let le : i ≤ 7 = omega arith in
    let m : 256 ^ i ≤ 256 ^ 7 = pow-le-pow_right {n = 256} (omega arith) le in
    omega arith
