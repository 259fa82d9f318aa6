-- Where the octets of a BIT STRING stand that hold its bits, for `bits::bits_at`.
use Rattle.std.proofs.Common.{◌≡◌, ℕ, ◌+◌, ◌*◌, ◌≤◌, ◌++◌, List, [], ◌∷◌, drop, take, length, refl, sym, ap, ◌∙◌, arith, drop-drop, length-append, length-drop}
use Rattle.std.proofs.lemmas.List.{drop-append-le, take_at}
use Rattle.asn1_blocks.proofs.EncodingSizes.{IsEncoding-two_le}
use Rattle.asn1_leaves.specs.Contents.BitString.{BitStringContents}
use Rattle.simple_asn1.specs.Places.{EncodingAt}
use Rattle.asn1_records.specs.Values.{UniversalAt}

-- an encoding at an offset ends within the octets
pub EncodingAt-within : (octets : List ℕ) (offset : ℕ) (x : List ℕ) → EncodingAt octets offset x →
    offset + length x ≤ length octets
EncodingAt-within octets offset x at =
    omega (
      arith,
      IsEncoding-two_le x at.encoding,
      ap length at.at_offset,
      length-drop offset octets,
      length-append x at.rest,
    )

-- octets are the last of others
pub record AreLast (v w : List ℕ) : Type 0 where
  pub before : ℕ
  pub count : length w ≡ before + length v
  pub octets : drop before w ≡ v

-- the octets that hold bits are the last of the contents octets
pub AreLast-held : (n : ℕ) (v w : List ℕ) → BitStringContents n v w → AreLast v w
AreLast-held n v [] (none, e) = record { before = 0; count = omega (arith, ap length e); octets = sym e }
AreLast-held n v (u ∷ w) (e, all, fits) = record { before = 1; count = omega (arith, ap length e); octets = sym e }

-- there are no more bits than the octets hold
pub bits-held_le : (n : ℕ) (v w : List ℕ) → BitStringContents n v w → n ≤ 8 * length v
bits-held_le n v [] (none, e) = omega (arith, none)
bits-held_le n v (u ∷ w) (e, all, fits) = omega (arith, all)

-- the last octets of an encoding at an offset stand that far behind the offset
pub take-last_at : (octets : List ℕ) (offset k : ℕ) (x v : List ℕ) → EncodingAt octets offset x → k ≤ length x →
    drop k x ≡ v → take (length v) (drop (offset + k) octets) ≡ v
take-last_at octets offset k x v at within e =
    let here : drop (offset + k) octets ≡ v ++ at.rest =
    sym (drop-drop k offset octets)
    ∙ (ap (drop k) at.at_offset ∙ (drop-append-le k x at.rest within ∙ ap (λ z. z ++ at.rest) e)) in
    ap (take (length v)) here ∙ take_at v at.rest (length v) refl

-- the encoding of class Universal at an offset has its header and its contents octets
pub length-universal : (octets : List ℕ) (offset tag : ℕ) (w : List ℕ) → (u : UniversalAt octets offset tag w) →
    length u.whole ≡ u.header + length w
length-universal octets offset tag w u =
    let e = u.encoding in
    omega (
      arith,
      e.size,
      ap length e.whole,
      length-append e.identifier (e.len ++ w),
      length-append e.len w,
    )
