-- Identifier octets at the front of octets, for `header::identifier_at`.
use Rattle.std.proofs.Common.{◌≡◌, ◌≢◌, ℕ, suc, ◌+◌, ◌%◌, ◌<◌, ◌≤◌, List, [], ◌∷◌, get_or, take, refl, sym, ap, ◌∙◌, subst, arith, length}
use Rattle.std.proofs.lemmas.List.{take_at}
use Rattle.asn1_numbers.specs.Base128.{IsBase128, low_bits_number}
use Rattle.asn1_headers.specs.Header.{IsIdentifier, IsSomeIdentifier, leading_octet}
use Rattle.asn1_headers.proofs.HeaderOctets.{IsContinued-take}
use Rattle.asn1_headers.proofs.Fronts.{leading_octet-parts, IsIdentifier-long}

-- a tag number below 31 has one identifier octet
pub IsSomeIdentifier-short : (octets rest : List ℕ) (b : ℕ) → octets ≡ b ∷ rest → b < 256 → b % 32 ≢ 31
    → (tag : ℕ) × IsSomeIdentifier (take 1 octets) tag
IsSomeIdentifier-short octets rest b e h ne =
    let (c, k, p) = leading_octet-parts b h in
    let lt : b % 32 < 31 = omega (arith, ne) in
    let t : take 1 octets ≡ b ∷ [] = ap (take 1) e ∙ take_at (b ∷ []) rest 1 refl in
    (b % 32, (c, k, subst (λ z. IsIdentifier z c k (b % 32)) (sym t) (lt, p)))

-- a tag number from 31 on has more identifier octets
pub IsSomeIdentifier-long :
    (octets rest : List ℕ) (b i : ℕ) → octets ≡ b ∷ rest → b < 256 → b % 32 ≡ 31 → i < length rest →
    get_or rest i 0 < 128 → ((j : ℕ) → j < i → 128 ≤ get_or rest j 0) →
    (tag : ℕ) × IsSomeIdentifier (take (i + 2) octets) tag
IsSomeIdentifier-long octets rest b i e h low lt end high =
    let (c, k, p) = leading_octet-parts b h in
    let s = take (suc i) rest in
    let n : suc (suc i) ≡ i + 2 = omega arith in
    let t : take (i + 2) octets ≡ b ∷ s = ap (λ z. take z octets) (sym n) ∙ ap (take (suc (suc i))) e in
    let q : IsBase128 s (low_bits_number s) =
    record { continued = IsContinued-take rest i lt end high; value = refl } in (
      low_bits_number s,
      (
        c,
        k,
        subst (λ z. IsIdentifier z c k (low_bits_number s)) (sym t)
            (IsIdentifier-long b s c k (low_bits_number s) (p ∙ ap (leading_octet c k) low) q),
      ),
    )
