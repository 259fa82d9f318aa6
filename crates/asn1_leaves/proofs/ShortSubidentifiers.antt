-- Subidentifiers none of which begins with 80 (hexadecimal) have their shortest forms, for
-- `contents::object_identifier`, `asn1_laws` and `simple_asn1`.
use Rattle.std.proofs.Common.{◌≡◌, ◌≢◌, ℕ, suc, ◌-◌, ◌<◌, Bool, true, List, [], ◌∷◌, ◌++◌, get_or, length, refl, sym, ap, ◌∙◌, subst, arith, nat_lt, IsTrue, ◌+◌, ◌*◌, ◌≤◌, ◌⊎◌, inl, inr}
use Rattle.std.specs.List.{flat_map}
use Rattle.std.proofs.lemmas.Bool.{cases_lt}
use Rattle.std.proofs.lemmas.List.{drop_at, take_at}
use Rattle.std.proofs.lemmas.List.Elements.{All-drop, All-take}
use Rattle.asn1_numbers.specs.Octets.{AreOctets}
use Rattle.asn1_numbers.specs.Base128.{IsContinued, low_bits_number, shortest_base128}
use Rattle.asn1_leaves.specs.Contents.ObjectIdentifier.{ObjectIdentifierContents, Subidentifiers, object_identifier_contents}
use Rattle.asn1_headers.proofs.Shortest.{shortest_base128-without_80}
use Rattle.asn1_leaves.proofs.Leaves.ObjectIdentifier.{AreFirstTwo-some}
use Rattle.asn1_headers.proofs.Fronts.{IsContinued-cons}

-- no subidentifier begins with 80, where the first octet begins one, or goes on with one; and the
-- last one ends
abbrev pub NoneLeads : Bool → List ℕ → Type 0
NoneLeads begins [] = IsTrue begins
NoneLeads begins (b ∷ octets) = (IsTrue begins → b ≢ 128) × NoneLeads (nat_lt b 128) octets

-- no subidentifier after the first begins with 80
NoneLeads-after_first : (first rest : List ℕ) (begins : Bool) → IsContinued first → NoneLeads begins (first ++ rest) →
    NoneLeads true rest
NoneLeads-after_first [] rest begins p h = absurd p
NoneLeads-after_first (b ∷ []) rest begins p h =
    let ends : nat_lt b 128 ≡ true = grind (arith, p) in
    subst (λ z. NoneLeads z rest) ends h.1
NoneLeads-after_first (b ∷ c ∷ first) rest begins p h = NoneLeads-after_first (c ∷ first) rest (nat_lt b 128) p.1 h.1

-- the first subidentifier does not begin with 80
NoneLeads-first : (first rest more : List ℕ) → IsContinued first → NoneLeads true (first ++ rest) → first ≢ 128 ∷ more
NoneLeads-first [] rest more p h e = p
NoneLeads-first (b ∷ first) rest more p h e =
    let leading : b ≡ 128 = cc in
    h.0 refl leading

-- subidentifiers of which none begins with 80 are the shortest
NoneLeads-shortest : (ns octets : List ℕ) → AreOctets octets → NoneLeads true octets → Subidentifiers ns octets
    → octets ≡ flat_map shortest_base128 ns
NoneLeads-shortest [] octets all h s = s
NoneLeads-shortest (n ∷ ns) octets all h (first, rest, e, p, s) =
    let whole = subst AreOctets e all in
    let none = subst (NoneLeads true) e h in
    let front : AreOctets first =
    subst AreOctets (take_at first rest (length first) refl)
    (All-take (λ b. b < 256) (length first) (first ++ rest) whole) in
    let back : AreOctets rest =
    subst AreOctets (drop_at first rest (length first) refl)
    (All-drop (λ b. b < 256) (length first) (first ++ rest) whole) in
    let here = shortest_base128-without_80 first n front p
    (λ more. NoneLeads-first first rest more p.continued none) in
    let others = NoneLeads-shortest ns rest back (NoneLeads-after_first first rest true p.continued none) s in
    e ∙ (ap (λ z. z ++ rest) here ∙ ap (λ z. shortest_base128 n ++ z) others)

-- octets that mean components, and in which no subidentifier begins with 80, are those that are written of them
pub NoneLeads-object_identifier_contents :
    (ns : List ℕ) (b : ℕ) (octets : List ℕ) → AreOctets (b ∷ octets) → NoneLeads true octets →
    ObjectIdentifierContents ns (b ∷ octets) → b ∷ octets ≡ object_identifier_contents ns
NoneLeads-object_identifier_contents [] b octets all h p = absurd p
NoneLeads-object_identifier_contents (x ∷ []) b octets all h p = absurd p
NoneLeads-object_identifier_contents (x ∷ y ∷ ns) b octets all h (c, rest, e, f, s) =
    let same : octets ≡ rest = cc in
    let first : b ≡ c = cc in
    let tail : AreOctets octets = All-drop (λ b. b < 256) 1 (b ∷ octets) all in
    let others = NoneLeads-shortest ns octets tail h (subst (Subidentifiers ns) (sym same) s) in
    let first_is : b ≡ 40 * x + y = first ∙ f.0 in
    cc

-- where no octets are left, and the last subidentifier has ended, none begins with 80
pub NoneLeads-nil : (octets : List ℕ) (begins : Bool) → length octets ≡ 0 → IsTrue begins → NoneLeads begins octets
NoneLeads-nil [] begins n ended = ended
NoneLeads-nil (b ∷ octets) begins n ended = absurd (omega (arith, n))

-- octets in which no subidentifier begins with 80, and the last one ends, are subidentifiers
pub NoneLeads-subidentifiers : (octets : List ℕ) (begins : Bool) → NoneLeads begins octets →
    (ns : List ℕ) × Subidentifiers ns octets
NoneLeads-subidentifiers [] begins h = ([], refl)
NoneLeads-subidentifiers (b ∷ octets) begins h =
    by_rest (NoneLeads-subidentifiers octets (nat_lt b 128) h.1) (cases_lt b 128)
  where
    -- an octet before subidentifiers is one too where bit 8 is clear, and else belongs to the first of them
    by_rest : ((ns : List ℕ) × Subidentifiers ns octets) → (b < 128) ⊎ (128 ≤ b) →
        (ns : List ℕ) × Subidentifiers ns (b ∷ octets)
    by_rest (ns, s) (inl low) =
        (low_bits_number (b ∷ []) ∷ ns, (b ∷ [], octets, refl, record { continued = low; value = refl }, s))
    by_rest ([], s) (inr high) =
        let ends : IsTrue (nat_lt b 128) = subst (NoneLeads (nat_lt b 128)) s h.1 in
        absurd (grind (arith, ends, high))
    by_rest (n ∷ ns, s) (inr high) = let (first, rest, whole, number, others) = s in (
      low_bits_number (b ∷ first) ∷ ns,
      (
        b ∷ first,
        rest,
        ap (λ z. b ∷ z) whole,
        record { continued = IsContinued-cons b first high number.continued; value = refl },
        others,
      ),
    )

-- an octet before octets in which no subidentifier begins with 80 makes them mean components
pub NoneLeads-components : (b : ℕ) (octets : List ℕ) → NoneLeads true octets →
    (ns : List ℕ) × ObjectIdentifierContents ns (b ∷ octets)
NoneLeads-components b octets h =
    let f = AreFirstTwo-some b in
    let s = NoneLeads-subidentifiers octets true h in
    (f.0 ∷ f.1 ∷ s.0, (b, octets, refl, f.2, s.1))

-- where no octet is 80, and the last one ends a subidentifier, no subidentifier begins with 80
pub NoneLeads-without_80 :
    (begins : Bool) (octets : List ℕ) → ((k : ℕ) → k < length octets → get_or octets k 0 ≢ 128) →
    (length octets ≡ 0 → IsTrue begins) → (0 < length octets → get_or octets (length octets - 1) 0 < 128) →
    NoneLeads begins octets
NoneLeads-without_80 begins [] none ends last = ends refl
NoneLeads-without_80 begins (b ∷ []) none ends last =
    let ended : IsTrue (nat_lt b 128) = grind (arith, last (omega arith)) in
    (λ _. none 0 (omega arith), ended)
NoneLeads-without_80 begins (b ∷ c ∷ octets) none ends last =
    let next : length (b ∷ c ∷ octets) - 1 ≡ suc (length (c ∷ octets) - 1) = omega arith in
    let ended : get_or (c ∷ octets) (length (c ∷ octets) - 1) 0 < 128 =
    subst (λ z. get_or (b ∷ c ∷ octets) z 0 < 128) next (last (omega arith)) in (
      λ _. none 0 (omega arith),
      NoneLeads-without_80 (nat_lt b 128) (c ∷ octets) (λ k h. none (suc k) (omega (arith, h)))
          (λ e. absurd (omega (arith, e))) (λ _. ended),
    )
