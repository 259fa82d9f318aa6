-- Octets begin with a header, or their header is at fault, for `header::identifier_at`, and for `laws::law_one_reading`
-- of `simple_asn1`.
use Rattle.std.proofs.Common.{◌≡◌, ℕ, zero, suc, ◌+◌, ◌*◌, ◌/◌, ◌%◌, ◌^◌, ◌-◌, ◌<◌, ◌≤◌, Bool, true, false, List, [], ◌∷◌, ◌++◌, ◌⊎◌, inl, inr, length, take, drop, refl, sym, ap, ◌∙◌, subst, arith, length-append}
use Rattle.std.specs.Int.Digits.{number_from_digits}
use Rattle.std.proofs.lemmas.Bool.{cases_lt}
use Rattle.std.proofs.lemmas.List.{take-append-drop, length-take-le}
use Rattle.asn1_headers.specs.declared.header.ASN1Class.{ASN1Class}
use Rattle.asn1_headers.specs.declared.header.ASN1Class.TheVariants.{Universal, Application, ContextSpecific, Private}
use Rattle.asn1_headers.specs.Fault.{DecodeFault, incomplete, length_too_large}
use Rattle.asn1_numbers.specs.Base128.{IsBase128, IsContinued, low_bits_number}
use Rattle.asn1_headers.specs.Header.{Encoding, IsIdentifier, IsLength, class_number, constructed_bit, leading_octet, length_fault}
use Rattle.asn1_headers.specs.HeaderFault.{HeaderFault, no_identifier, no_length, too_far, too_long}
use Rattle.asn1_headers.proofs.Prefixes.{append_assoc-four, constructed_bit-lt, IsIdentifier-not_empty}

-- the octets begin with continued octets, or bit 8 is set in all
data ContinuedFront (octets : List ℕ) : Type 0 where
  ends : (s rest : List ℕ) → IsContinued s → octets ≡ s ++ rest → ContinuedFront octets
  never_ends : ((s rest : List ℕ) → IsContinued s → octets ≡ s ++ rest → ⊥) → ContinuedFront octets

-- continued octets are one or more
IsContinued-not_nil : (s rest : List ℕ) → IsContinued s → [] ≡ s ++ rest → ⊥
IsContinued-not_nil [] rest p e = p
IsContinued-not_nil (a ∷ s) rest p e = omega (arith, ap length e)

-- an octet whose bit 8 is set, and continued octets behind it, are continued octets
pub IsContinued-cons : (b : ℕ) (s : List ℕ) → 128 ≤ b → IsContinued s → IsContinued (b ∷ s)
IsContinued-cons b [] h p = absurd p
IsContinued-cons b (c ∷ s) h p = (h, p)

-- an octet whose bit 8 is set, before octets that begin with no continued octets, begins none
IsContinued-not_behind_cons : (b : ℕ) (octets : List ℕ) → 128 ≤ b
    → ((s rest : List ℕ) → IsContinued s → octets ≡ s ++ rest → ⊥)
    → (s rest : List ℕ)
    → IsContinued s → b ∷ octets ≡ s ++ rest → ⊥
IsContinued-not_behind_cons b octets h none [] rest p e = p
IsContinued-not_behind_cons b octets h none (a ∷ []) rest p e =
    let d : b ≡ a = cc in
    omega (arith, h, p, d)
IsContinued-not_behind_cons b octets h none (a ∷ c ∷ s) rest p e =
    let d : octets ≡ (c ∷ s) ++ rest = cc in
    none (c ∷ s) rest p.1 d

-- octets begin with continued octets, or bit 8 is set in all
ContinuedFront-total : (octets : List ℕ) → ContinuedFront octets
ContinuedFront-total [] = never_ends IsContinued-not_nil
ContinuedFront-total (b ∷ octets) = elim (cases_lt b 128) [
  | inl lt ↦ ends (b ∷ []) octets lt refl
  | inr ge ↦ elim (ContinuedFront-total octets) [
    | ends s rest p e ↦ ends (b ∷ s) rest (IsContinued-cons b s ge p) (ap (λ l. b ∷ l) e)
    | never_ends none ↦ never_ends (IsContinued-not_behind_cons b octets ge none)
  ]
]

-- each two bits are those of a class
class_number-onto : (n : ℕ) → n < 4 → (c : ASN1Class) × (class_number c ≡ n)
class_number-onto zero h = (Universal, refl)
class_number-onto (suc zero) h = (Application, refl)
class_number-onto (suc (suc zero)) h = (ContextSpecific, refl)
class_number-onto (suc (suc (suc zero))) h = (Private, refl)
class_number-onto (suc (suc (suc (suc n)))) h = absurd (omega (arith, h))

-- each bit is that of primitive or constructed
constructed_bit-onto : (n : ℕ) → n < 2 → (k : Bool) × (constructed_bit k ≡ n)
constructed_bit-onto zero h = (false, refl)
constructed_bit-onto (suc zero) h = (true, refl)
constructed_bit-onto (suc (suc n)) h = absurd (omega (arith, h))

-- a class has two bits
class_number-lt : (c : ASN1Class) → class_number c < 4
class_number-lt Universal = omega arith
class_number-lt Application = omega arith
class_number-lt ContextSpecific = omega arith
class_number-lt Private = omega arith

-- an octet is the leading one of some class and constructed bit
pub leading_octet-parts : (b : ℕ) → b < 256 → (c : ASN1Class) × (k : Bool) × (b ≡ leading_octet c k (b % 32))
leading_octet-parts b h =
    let q = b / 32 in
    let whole : b ≡ 32 * q + b % 32 = omega arith in
    let (c, e) = class_number-onto (q / 2) (omega (arith, h, whole)) in
    let (k, d) = constructed_bit-onto (q % 2) (omega arith) in
    (c, k, omega (arith, e, d, whole))

-- the first of identifier octets is below 256
IsIdentifier-first_lt : (b : ℕ) (s : List ℕ) (c : ASN1Class) (k : Bool) (n : ℕ) → IsIdentifier (b ∷ s) c k n → b < 256
IsIdentifier-first_lt b [] c k n p = omega (arith, p.0, p.1, class_number-lt c, constructed_bit-lt k)
IsIdentifier-first_lt b (d ∷ s) c k n p = omega (arith, p.0, class_number-lt c, constructed_bit-lt k)

-- a leading octet that ends in 31, and a base-128 number behind it, are identifier octets
pub IsIdentifier-long : (b : ℕ) (s : List ℕ) (c : ASN1Class) (k : Bool) (n : ℕ) → b ≡ leading_octet c k 31
    → IsBase128 s n
    → IsIdentifier (b ∷ s) c k n
IsIdentifier-long b [] c k n e p = absurd p.continued
IsIdentifier-long b (d ∷ s) c k n e p = (e, p)

-- the octets begin with identifier octets, or with none
data IdentifierFront (octets : List ℕ) : Type 0 where
  identified : (s rest : List ℕ) (c : ASN1Class) (k : Bool) (n : ℕ) → IsIdentifier s c k n → octets ≡ s ++ rest
      → IdentifierFront octets
  not_identified : ((s rest : List ℕ) (c : ASN1Class) (k : Bool) (n : ℕ) → IsIdentifier s c k n → octets ≡ s ++ rest
      → ⊥)
      → IdentifierFront octets

-- a number that is no octet leads no identifier octets
IsIdentifier-not_from_256 : (b : ℕ) (octets : List ℕ) → 256 ≤ b → (s rest : List ℕ) (c : ASN1Class) (k : Bool) (n : ℕ)
    → IsIdentifier s c k n
    → b ∷ octets ≡ s ++ rest → ⊥
IsIdentifier-not_from_256 b octets h [] rest c k n p e = p
IsIdentifier-not_from_256 b octets h (a ∷ s) rest c k n p e =
    let d : b ≡ a = cc in
    omega (arith, h, d, IsIdentifier-first_lt a s c k n p)

-- an octet that ends in 31 leads no identifier octets, if no base-128 number comes behind it
IsIdentifier-not_without_base128 : (b : ℕ) (octets : List ℕ) → 31 ≤ b % 32
    → ((s rest : List ℕ) → IsContinued s → octets ≡ s ++ rest → ⊥)
    → (s rest : List ℕ) (c : ASN1Class) (k : Bool) (n : ℕ) → IsIdentifier s c k n → b ∷ octets ≡ s ++ rest → ⊥
IsIdentifier-not_without_base128 b octets h none [] rest c k n p e = p
IsIdentifier-not_without_base128 b octets h none (a ∷ []) rest c k n p e =
    let d : b ≡ a = cc in
    let f : b ≡ leading_octet c k n = d ∙ p.1 in
    omega (arith, h, f, p.0)
IsIdentifier-not_without_base128 b octets h none (a ∷ d ∷ s) rest c k n p e =
    let r : octets ≡ (d ∷ s) ++ rest = cc in
    none (d ∷ s) rest p.1.continued r

-- octets begin with identifier octets, or with none
IdentifierFront-total : (octets : List ℕ) → IdentifierFront octets
IdentifierFront-total [] =
    not_identified
    (λ s rest c k n p e. omega (arith, IsIdentifier-not_empty s c k n p, ap length e, length-append s rest))
IdentifierFront-total (b ∷ octets) = elim (cases_lt b 256) [
  | inr ge ↦ not_identified (IsIdentifier-not_from_256 b octets ge)
  | inl lt ↦
      let (c, k, e) = leading_octet-parts b lt in
      elim (cases_lt (b % 32) 31) [
        | inl low ↦ identified (b ∷ []) octets c k (b % 32) (low, e) refl
        | inr high ↦ elim (ContinuedFront-total octets) [
          | never_ends none ↦ not_identified (IsIdentifier-not_without_base128 b octets high none)
          | ends s rest p d ↦
              let f : b % 32 ≡ 31 = omega (arith, high) in
              identified (b ∷ s) rest c k (low_bits_number s) (IsIdentifier-long b s c k (low_bits_number s) (e
              ∙ ap (leading_octet c k) f) (record { continued = p; value = refl })) (ap (λ l. b ∷ l) d)
        ]
      ]
]

-- the octets begin with length octets, or with none
data LengthFront (octets : List ℕ) : Type 0 where
  measured : (l rest : List ℕ) (m : ℕ) → IsLength l m → octets ≡ l ++ rest → LengthFront octets
  not_measured : ((l rest : List ℕ) (m : ℕ) → IsLength l m → octets ≡ l ++ rest → ⊥) → LengthFront octets

-- the octets that a leading length octet asks for are there
IsLength-shape : (b : ℕ) (octets l rest : List ℕ) (m : ℕ) → IsLength l m → b ∷ octets ≡ l ++ rest
    → (b < 128) ⊎ ((b ≤ 136) × (b ≤ 128 + length octets))
IsLength-shape b octets [] rest m p e = absurd p
IsLength-shape b octets (a ∷ l) rest m (inl p) e =
    let d : b ≡ a = cc in
    inl (omega (arith, d, p.0))
IsLength-shape b octets (a ∷ l) rest m (inr p) e =
    let d : b ≡ a = cc in
    let r : octets ≡ l ++ rest = cc in
    inr (omega (arith, d, p.0, p.1), omega (arith, d, p.0, ap length r, length-append l rest))

-- octets begin with length octets, or with none
LengthFront-total : (octets : List ℕ) → LengthFront octets
LengthFront-total [] = not_measured (λ l rest m p e. none l rest m p e)
  where
    none : (l rest : List ℕ) (m : ℕ) → IsLength l m → [] ≡ l ++ rest → ⊥
    none [] rest m p e = p
    none (a ∷ l) rest m p e = omega (arith, ap length e)
LengthFront-total (b ∷ octets) = elim (cases_lt b 128) [
  | inl lt ↦ measured (b ∷ []) octets b (inl (lt, refl, refl)) refl
  | inr ge ↦ elim (cases_lt 136 b) [
    | inl big ↦ not_measured (λ l rest m p e. elim (IsLength-shape b octets l rest m p e)
        [ inl h ↦ omega (arith, h, ge) | inr h ↦ omega (arith, h.0, big) ])
    | inr few ↦ elim (cases_lt (length octets) (b - 128)) [
      | inl short ↦ not_measured (λ l rest m p e. elim (IsLength-shape b octets l rest m p e)
          [ inl h ↦ omega (arith, h, ge) | inr h ↦ omega (arith, h.1, short) ])
      | inr enough ↦
          let h = length-take-le (b - 128) octets enough in
          measured (b ∷ take (b - 128) octets) (drop (b - 128) octets) (number_from_digits 256 (take (b - 128) octets))
          (inr (
            omega (arith, h, ge),
            omega (arith, h, few),
            refl,
          )) (ap (λ l. b ∷ l) (sym (take-append-drop (b - 128) octets)))
    ]
  ]
]

-- at the front stands an encoding, or the header is at fault
pub data EncodingFront (place : ℕ) (octets : List ℕ) : Type 0 where
  begins : (x rest : List ℕ) (c : ASN1Class) (k : Bool) (n : ℕ) (contents : List ℕ) (h : ℕ)
      → Encoding x c k n contents h → octets ≡ x ++ rest
      → EncodingFront place octets
  begins_not : (e : DecodeFault) → HeaderFault place octets e → EncodingFront place octets

-- octets that begin with identifier and length octets begin with an encoding, or their header is at fault
EncodingFront-rest : (place : ℕ) (octets s l rest : List ℕ) (c : ASN1Class) (k : Bool) (n m : ℕ) →
    IsIdentifier s c k n
    → IsLength l m
    → octets ≡ s ++ (l ++ rest)
    → EncodingFront place octets
EncodingFront-rest place octets s l rest c k n m t u g = elim (cases_lt (place + (length s + length l) + m) (2 ^ 64)) [
  | inr far ↦ begins_not (length_too_large m) (too_far s l rest n m (c, k, t) u g far refl)
  | inl near ↦ elim (cases_lt (length rest) m) [
    | inl long ↦ begins_not incomplete (too_long s l rest n m (c, k, t) u g near long)
    | inr enough ↦ begins (s ++ (l ++ take m rest)) (drop m rest) c k n (take m rest) (length s + length l)
        (record {
          identifier = s;
          len = l;
          identifier_octets = t;
          length_octets = subst (IsLength l) (sym (length-take-le m rest enough)) u;
          whole = refl;
          size = refl;
        })
        (g ∙ ap (λ z. s ++ (l ++ z)) (sym (take-append-drop m rest))
        ∙ sym (append_assoc-four s l (take m rest) (drop m rest)))
  ]
]

-- octets that begin with identifier octets begin with an encoding, or their header is at fault
EncodingFront-length : (place : ℕ) (octets s rest : List ℕ) (c : ASN1Class) (k : Bool) (n : ℕ) → IsIdentifier s c k n
    → octets ≡ s ++ rest
    → EncodingFront place octets
EncodingFront-length place octets s rest c k n t g = elim (LengthFront-total rest) [
  | not_measured none ↦ begins_not (length_fault rest) (no_length s rest n (c, k, t) g
      (λ m j l. none (take j rest) (drop j rest) m l (sym (take-append-drop j rest))) refl)
  | measured l r m u e ↦ EncodingFront-rest place octets s l r c k n m t u (g ∙ ap (λ z. s ++ z) e)
]

-- an encoding stands at the front of octets, or their header is at fault
pub EncodingFront-total : (place : ℕ) (octets : List ℕ) → EncodingFront place octets
EncodingFront-total place octets = elim (IdentifierFront-total octets) [
  | not_identified none ↦ begins_not incomplete (no_identifier
      (λ n j (c, k, t). none (take j octets) (drop j octets) c k n t (sym (take-append-drop j octets))))
  | identified s rest c k n t g ↦ EncodingFront-length place octets s rest c k n t g
]
