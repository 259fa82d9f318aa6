-- What is known of the contents octets of a BIT STRING, for `asn1_blocks`.
use Rattle.std.proofs.Common.{◌≡◌, ℕ, true, false, zero, suc, ◌+◌, ◌-◌, ◌*◌, ◌<◌, ◌≤◌, ◌^◌, ◌⊎◌, List, [], ◌∷◌, None, length, inl, inr, refl, sym, ap, ◌∙◌, subst, arith}
use Rattle.std.specs.Prelude.{pos, ◌-ℤ◌, All, nat_lt, slice_index, if◌then◌else◌}
use Rattle.std.proofs.lemmas.Bool.{cases_lt}
use Rattle.std.proofs.lemmas.Bool.Decides.{nat_tests}
use Rattle.std.proofs.lemmas.Grind.{common_steps}
use Rattle.std.proofs.lemmas.List.Elements.{All-head}
use Rattle.asn1_headers.specs.Fault.{DecodeFault, IsOfReading, length_too_large, invalid_bit_string_length}
use Rattle.asn1_leaves.specs.Contents.BitString.{BitStringContents, BitStringFault, IsFaithfulBitString, bit_string_contents, bit_string_fault, bit_string_write_fault, written_bits}
use Rattle.std.proofs.Math.Dec.{eqb-suc-zero}

-- contents octets mean one number of bits, and one list of octets
pub BitStringContents-unique : (m n : ℕ) (v w contents : List ℕ) → BitStringContents m v contents →
    BitStringContents n w contents → (m ≡ n) × (v ≡ w)
BitStringContents-unique m n v w [] p q = (p.0 ∙ sym q.0, p.1 ∙ sym q.1)
BitStringContents-unique m n v w (u ∷ contents) p q =
    let f : v ≡ w = p.0 ∙ sym q.0 in
    (omega (arith, p.1, q.1, ap length f), f)

-- more octets than a usize can count the bits of mean no bits
pub BitStringFault-far : (u : ℕ) (v : List ℕ) → 2 ^ 64 ≤ 8 * length v →
    BitStringFault (u ∷ v) (length_too_large (length (u ∷ v)))
BitStringFault-far u v far = (
  λ n w p. omega (arith, far, p.2, ap length p.0),
  grind (arith, nat_tests, far),
)

-- octets with fewer bits than are unused mean no bits
pub BitStringFault-few : (u : ℕ) (v : List ℕ) → 8 * length v < 2 ^ 64 → 8 * length v < u →
    BitStringFault (u ∷ v) (invalid_bit_string_length (pos (8 * length v) -ℤ pos u))
BitStringFault-few u v near few = (
  λ n w p. omega (arith, few, p.1, ap length p.0),
  grind (arith, nat_tests, near),
)

-- contents octets that mean no bits have a fault
pub BitStringContents-or_fault : (contents : List ℕ)
    → ((n : ℕ) × (v : List ℕ) × BitStringContents n v contents) ⊎ ((e : DecodeFault) × BitStringFault contents e)
BitStringContents-or_fault [] = inl (0, [], (refl, refl))
BitStringContents-or_fault (u ∷ v) = elim (cases_lt (8 * length v) (2 ^ 64)) [
  | inr far ↦ inr (length_too_large (length (u ∷ v)), BitStringFault-far u v far)
  | inl near ↦ elim (cases_lt (8 * length v) u) [
    | inl more ↦ inr (invalid_bit_string_length (pos (8 * length v) -ℤ pos u), BitStringFault-few u v near more)
    | inr enough ↦ inl (8 * length v - u, v, (refl, omega arith, near))
  ]
]

-- the fault of contents octets that mean no bits is one of reading
IsOfReading-bit_string_fault : (contents : List ℕ) → IsOfReading (bit_string_fault contents)
IsOfReading-bit_string_fault contents =
    let bits = 8 * (length contents - 1) in
    elim (nat_lt bits (2 ^ 64)) as
    (λ near. IsOfReading (if near then invalid_bit_string_length (pos bits -ℤ pos (slice_index contents 0))
    else length_too_large (length contents)))
    [ true ↦ tt | false ↦ tt ]

-- each fault of a BIT STRING is one of reading
pub BitStringFault-of_reading : (contents : List ℕ) (e : DecodeFault) → BitStringFault contents e → IsOfReading e
BitStringFault-of_reading contents e f = subst IsOfReading (sym f.1) (IsOfReading-bit_string_fault contents)

-- bits that octets mean can be written
pub bit_string_write_fault-read : (n : ℕ) (v contents : List ℕ) → All (λ b. b < 256) contents →
    BitStringContents n v contents
    → bit_string_write_fault n v ≡ None
bit_string_write_fault-read n v [] all p = ap (λ z. bit_string_write_fault z v) p.0
bit_string_write_fault-read n v (u ∷ contents) all p =
    let h : u < 256 = All-head (λ b. b < 256) u contents all in
    grind (arith, common_steps, h, p.1)

-- what is written of a bit string that has bits, and what is left of it
pub bit_string_contents-suc : (n : ℕ) (v : List ℕ) → bit_string_contents (suc n) v ≡ (8 * length v - suc n) ∷ v
bit_string_contents-suc n v = ap (λ z. if z then [] else ((8 * length v - suc n) ∷ v)) (eqb-suc-zero n)

written_bits-suc : (n : ℕ) (v : List ℕ) → written_bits (suc n) v ≡ v
written_bits-suc n v = ap (λ z. if z then [] else v) (eqb-suc-zero n)

-- what is written of faithful bits means them
pub BitStringContents-written : (n : ℕ) (v : List ℕ) → IsFaithfulBitString n v →
    BitStringContents n v (bit_string_contents n v)
BitStringContents-written zero v (inl f) = (refl, f.1)
BitStringContents-written zero v (inr f) = absurd (omega (arith, f.0))
BitStringContents-written (suc n) v (inl f) = absurd (omega (arith, f.0))
BitStringContents-written (suc n) v (inr (_, enough, _, fits)) =
    subst (BitStringContents (suc n) v) (sym (bit_string_contents-suc n v)) (refl, omega (arith, enough), fits)

-- faithful bits can be written
pub bit_string_write_fault-faithful : (n : ℕ) (v : List ℕ) → IsFaithfulBitString n v → bit_string_write_fault n v ≡ None
bit_string_write_fault-faithful zero v f = refl
bit_string_write_fault-faithful (suc n) v (inl f) = absurd (omega (arith, f.0))
bit_string_write_fault-faithful (suc n) v (inr (_, enough, few, _)) = grind (arith, common_steps, enough, few)

-- bits that can be written are faithful where what is written means them
pub IsFaithfulBitString-written : (n : ℕ) (v : List ℕ) → bit_string_write_fault n v ≡ None →
    BitStringContents n v (bit_string_contents n v)
    → IsFaithfulBitString n v
IsFaithfulBitString-written zero v w p = inl (refl, p.1)
IsFaithfulBitString-written (suc n) v w p =
    let (_, bits, fits) = subst (BitStringContents (suc n) v) (bit_string_contents-suc n v) p in
    let h : 8 * length v ≤ suc n + 255 = grind (arith, common_steps, w, bits) in
    inr (omega arith, omega (arith, bits), h, fits)

-- what is left of bits that were read is faithful
pub IsFaithfulBitString-read : (n : ℕ) (v contents : List ℕ) → All (λ b. b < 256) contents →
    BitStringContents n v contents
    → IsFaithfulBitString n (written_bits n v)
IsFaithfulBitString-read zero v contents all p = inl (refl, refl)
IsFaithfulBitString-read (suc n) v [] all p = absurd (omega (arith, p.0))
IsFaithfulBitString-read (suc n) v (u ∷ contents) all (same, bits, near) =
    let h : u < 256 = All-head (λ b. b < 256) u contents all in
    let few : 8 * length v ≤ suc n + 255 = omega (arith, h, bits, ap length same) in
    let fits : 8 * length v < 2 ^ 64 = omega (arith, near, ap length same) in
    subst (IsFaithfulBitString (suc n)) (sym (written_bits-suc n v))
    (inr (omega arith, omega (arith, bits, ap length same), few, fits))

-- octets of a bit string that are not left are not written
pub bit_string_contents-written_bits : (n : ℕ) (v : List ℕ) →
    bit_string_contents n (written_bits n v) ≡ bit_string_contents n v
bit_string_contents-written_bits zero v = refl
bit_string_contents-written_bits (suc n) v = ap (bit_string_contents (suc n)) (written_bits-suc n v)
