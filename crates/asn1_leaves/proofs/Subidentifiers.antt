-- Subidentifiers, one after another, for `contents::object_identifier` and `oid::push_numbers`.
use Rattle.std.proofs.Common.{◌≡◌, ℕ, ◌-◌, ◌<◌, ◌≤◌, inl, inr, List, [], ◌∷◌, ◌++◌, length, get_or, take, refl, sym, ap, ◌∙◌, subst, arith, length-append, append_assoc, append-nil}
use Rattle.std.specs.List.{flat_map}
use Rattle.std.proofs.lemmas.Bool.{cases_lt}
use Rattle.std.proofs.lemmas.List.{take_at}
use Rattle.asn1_numbers.specs.Base128.{IsBase128, IsContinued, low_bits_number, shortest_base128}
use Rattle.asn1_leaves.specs.Contents.ObjectIdentifier.{Subidentifiers}
use Rattle.asn1_headers.specs.Fault.{DecodeFault, incomplete}
use Rattle.asn1_headers.specs.Header.{BeginsWithNo, IsIncomplete}
use Rattle.asn1_headers.proofs.Prefixes.{IsContinued-unique}
use Rattle.asn1_headers.proofs.Shortest.{IsBase128-shortest}
use Rattle.asn1_leaves.proofs.Fractions.{get_or-last_cons}
use Rattle.asn1_headers.proofs.Fronts.{IsContinued-cons}

-- subidentifiers with one more at the end are subidentifiers
pub Subidentifiers-push : (ns octets last : List ℕ) (n : ℕ) → Subidentifiers ns octets → IsBase128 last n
    → Subidentifiers (ns ++ n ∷ []) (octets ++ last)
Subidentifiers-push [] octets last n s t = (last, [], ap (λ z. z ++ last) s ∙ sym (append-nil last), t, refl)
Subidentifiers-push (m ∷ ms) octets last n (first, rest, whole, number, others) t = (
  first,
  rest ++ last,
  ap (λ z. z ++ last) whole ∙ append_assoc first rest last,
  number,
  Subidentifiers-push ms rest last n others t,
)

-- where the octets behind the first subidentifier are no subidentifiers, neither are all octets
pub Subidentifiers-none_after : (first rest : List ℕ) (n : ℕ) → IsBase128 first n
    → ((ns : List ℕ) → Subidentifiers ns rest → ⊥) → (octets : List ℕ) → octets ≡ first ++ rest → (ns : List ℕ)
    → Subidentifiers ns octets → ⊥
Subidentifiers-none_after [] rest n t none octets e ns s = t.continued
Subidentifiers-none_after (a ∷ first) rest n t none octets e [] s = absurd (omega (arith, ap length (sym s ∙ e)))
Subidentifiers-none_after (a ∷ first) rest n t none octets e (m ∷ ms) (front, behind, whole, number, others) =
    let p = IsContinued-unique (a ∷ first) front rest behind t.continued number.continued (sym e ∙ whole) in
    none ms (subst (Subidentifiers ms) (sym p.1) others)

-- octets that begin with no base-128 number are no subidentifiers
Subidentifiers-none_first : (octets : List ℕ) → 0 < length octets → BeginsWithNo IsBase128 octets → (ns : List ℕ) →
    Subidentifiers ns octets → ⊥
Subidentifiers-none_first octets some missing [] s = absurd (omega (arith, some, ap length s))
Subidentifiers-none_first octets some missing (m ∷ ms) (first, rest, whole, number, others) =
    let size = length first in
    missing m size
    (subst (λ z. IsBase128 z m) (sym (ap (λ z. take size z) whole ∙ take_at first rest size refl)) number)

-- octets that begin with no base-128 number are no subidentifiers, but incomplete
pub Subidentifiers-incomplete : (octets : List ℕ) (e : DecodeFault) → 0 < length octets →
    IsIncomplete IsBase128 octets e
    → (e ≡ incomplete) × ((ns : List ℕ) → Subidentifiers ns octets → ⊥)
Subidentifiers-incomplete octets e some p = (p.0, Subidentifiers-none_first octets some p.1)

-- continued octets are one or more
IsContinued-not_empty : (first : List ℕ) → IsContinued first → length first ≤ 0 → ⊥
IsContinued-not_empty [] p h = p
IsContinued-not_empty (b ∷ first) p h = omega (arith, h)

-- octets are the subidentifiers of one list of numbers
pub Subidentifiers-unique : (ms ns octets : List ℕ) → Subidentifiers ms octets → Subidentifiers ns octets → ms ≡ ns
Subidentifiers-unique [] [] octets s t = refl
Subidentifiers-unique [] (n ∷ ns) octets none (first, rest, whole, number, others) =
    absurd (IsContinued-not_empty first number.continued
    (omega (arith, ap length (sym none ∙ whole), length-append first rest)))
Subidentifiers-unique (m ∷ ms) [] octets (first, rest, whole, number, others) none =
    absurd (IsContinued-not_empty first number.continued
    (omega (arith, ap length (sym none ∙ whole), length-append first rest)))
Subidentifiers-unique (m ∷ ms) (n ∷ ns) octets (first, rest, whole, number, others)
    (first', rest', whole', number', others') =
    let p = IsContinued-unique first first' rest rest' number.continued number'.continued (sym whole ∙ whole') in
    let e : m ≡ n = number.value ∙ ap low_bits_number p.0 ∙ sym number'.value in
    let r : ms ≡ ns = Subidentifiers-unique ms ns rest others (subst (Subidentifiers ns) (sym p.1) others') in
    cc

-- what is left of continued octets behind an octet whose bit 8 is set is continued octets
IsContinued-tail : (b : ℕ) (first : List ℕ) → 128 ≤ b → IsContinued (b ∷ first) → IsContinued first
IsContinued-tail b [] high p = absurd (omega (arith, high, p))
IsContinued-tail b (c ∷ first) high p = p.1

-- a lone octet whose bit 8 is set ends no number
IsContinued-unfinished : (b : ℕ) (octets first rest : List ℕ) → 128 ≤ b → octets ≡ [] → b ∷ octets ≡ first ++ rest →
    IsContinued first → ⊥
IsContinued-unfinished b octets [] rest high none whole p = p
IsContinued-unfinished b octets (a ∷ []) rest high none whole p = let h : b ≡ a = cc in omega (arith, h, high, p)
IsContinued-unfinished b octets (a ∷ c ∷ first) rest high none whole p =
    omega (arith, ap length whole, ap length none, length-append (a ∷ c ∷ first) rest)

-- an octet whose bit 8 is set, before octets that are no subidentifiers, begins no subidentifiers
Subidentifiers-still_none : (b : ℕ) (octets first rest ms : List ℕ) → 128 ≤ b →
    ((ns : List ℕ) → Subidentifiers ns octets → ⊥)
    → b ∷ octets ≡ first ++ rest → IsContinued first → Subidentifiers ms rest → ⊥
Subidentifiers-still_none b octets [] rest ms high none whole p others = p
Subidentifiers-still_none b octets (a ∷ first) rest ms high none whole p others =
    let h : b ≡ a = cc in
    let e : octets ≡ first ++ rest = cc in
    let more : IsBase128 first (low_bits_number first) =
    record { continued = IsContinued-tail a first (omega (arith, h, high)) p; value = refl } in
    none (low_bits_number first ∷ ms) (first, rest, e, more, others)

-- a single octet whose bit 8 is set is the subidentifiers of no numbers
Subidentifiers-unfinished : (b : ℕ) (octets : List ℕ) → octets ≡ [] → 128 ≤ b → (ns : List ℕ) →
    Subidentifiers ns (b ∷ octets) →
    ⊥
Subidentifiers-unfinished b octets none high [] s = omega (arith, ap length s)
Subidentifiers-unfinished b octets none high (m ∷ ms) (first, rest, whole, number, others) =
    IsContinued-unfinished b octets first rest high none whole number.continued

-- octets that are no subidentifiers are none with an octet before them whose bit 8 is set
Subidentifiers-none_behind_high : (b : ℕ) (octets : List ℕ) → ((ns : List ℕ) → Subidentifiers ns octets → ⊥) → 128 ≤ b →
    (ns : List ℕ)
    → Subidentifiers ns (b ∷ octets) → ⊥
Subidentifiers-none_behind_high b octets none high [] s = omega (arith, ap length s)
Subidentifiers-none_behind_high b octets none high (m ∷ ms) (first, rest, whole, number, others) =
    Subidentifiers-still_none b octets first rest ms high none whole number.continued others

-- an octet before octets that are subidentifiers, one octet or more, makes other subidentifiers
Subidentifiers-cons : (b c : ℕ) (octets : List ℕ) → (ns : List ℕ) × Subidentifiers ns (c ∷ octets)
    → (ns : List ℕ) × Subidentifiers ns (b ∷ c ∷ octets)
Subidentifiers-cons b c octets ([], s) = absurd (omega (arith, ap length s))
Subidentifiers-cons b c octets (n ∷ ns, s) = elim (cases_lt b 128) [
  | inl low ↦ (
    low_bits_number (b ∷ []) ∷ n ∷ ns,
    (b ∷ [], c ∷ octets, refl, record { continued = low; value = refl }, s),
  )
  | inr high ↦ let (first, rest, whole, number, others) = s in (
    low_bits_number (b ∷ first) ∷ ns,
    (
      b ∷ first,
      rest,
      ap (λ z. b ∷ z) whole,
      record { continued = IsContinued-cons b first high number.continued; value = refl },
      others,
    ),
  )
]

-- octets that are no subidentifiers are none with any octet before them
Subidentifiers-none_behind : (b : ℕ) (octets : List ℕ) → ((ns : List ℕ) → Subidentifiers ns octets → ⊥) → (ns : List ℕ)
    → Subidentifiers ns (b ∷ octets) → ⊥
Subidentifiers-none_behind b octets none = elim (cases_lt b 128) [
  | inl low ↦ Subidentifiers-none_after (b ∷ []) octets (low_bits_number (b ∷ []))
      (record { continued = low; value = refl }) none
      (b ∷ octets) refl
  | inr high ↦ Subidentifiers-none_behind_high b octets none high
]

-- octets are subidentifiers of some numbers, where the last ends one
pub Subidentifiers-ended : (octets : List ℕ) → get_or octets (length octets - 1) 0 < 128 →
    (ns : List ℕ) × Subidentifiers ns octets
Subidentifiers-ended [] low = ([], refl)
Subidentifiers-ended (b ∷ []) low =
    (low_bits_number (b ∷ []) ∷ [], (b ∷ [], [], refl, record { continued = low; value = refl }, refl))
Subidentifiers-ended (b ∷ c ∷ octets) low =
    Subidentifiers-cons b c octets (Subidentifiers-ended (c ∷ octets) (omega (arith, low, get_or-last_cons b c octets)))

-- octets whose last goes on with another are the subidentifiers of no numbers
pub Subidentifiers-unended : (octets : List ℕ) → 128 ≤ get_or octets (length octets - 1) 0 → (ns : List ℕ) →
    Subidentifiers ns octets → ⊥
Subidentifiers-unended [] high ns s = omega (arith, high)
Subidentifiers-unended (b ∷ []) high ns s = Subidentifiers-unfinished b [] refl high ns s
Subidentifiers-unended (b ∷ c ∷ octets) high ns s =
    Subidentifiers-none_behind b (c ∷ octets)
    (Subidentifiers-unended (c ∷ octets) (omega (arith, high, get_or-last_cons b c octets))) ns s

-- the shortest forms are subidentifiers
pub Subidentifiers-shortest : (ns : List ℕ) → Subidentifiers ns (flat_map shortest_base128 ns)
Subidentifiers-shortest [] = refl
Subidentifiers-shortest (n ∷ ns) =
    (shortest_base128 n, flat_map shortest_base128 ns, refl, IsBase128-shortest n, Subidentifiers-shortest ns)
