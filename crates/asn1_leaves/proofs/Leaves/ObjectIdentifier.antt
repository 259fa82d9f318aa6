-- What is known of the contents octets of an OBJECT IDENTIFIER, for `contents::object_identifier` and `oid`,
-- and for the crates above.
use Rattle.std.proofs.Common.{◌≡◌, ℕ, ◌+◌, ◌*◌, ◌-◌, ◌<◌, ◌≤◌, ◌⊎◌, List, [], ◌∷◌, length, get_or, None, inl, inr, refl, sym, ◌∙◌, subst, arith}
use Rattle.std.specs.Prelude.{All}
use Rattle.std.specs.List.{flat_map}
use Rattle.std.proofs.lemmas.Bool.{cases_lt}
use Rattle.std.proofs.lemmas.List.Elements.{All-head}
use Rattle.asn1_numbers.specs.Base128.{shortest_base128}
use Rattle.asn1_leaves.specs.Contents.ObjectIdentifier.{AreFirstTwo, IsFaithfulObjectIdentifier, ObjectIdentifierContents, ObjectIdentifierFault, Subidentifiers, object_identifier_contents, object_identifier_write_fault}
use Rattle.asn1_headers.specs.Fault.{DecodeFault, IsOfReading, incomplete}
use Rattle.asn1_leaves.proofs.Subidentifiers.{Subidentifiers-unique, Subidentifiers-ended, Subidentifiers-shortest, Subidentifiers-unended}

-- a number is that of one pair of first components
AreFirstTwo-unique : (v w x y n : ℕ) → AreFirstTwo v w n → AreFirstTwo x y n → (v ≡ x) × (w ≡ y)
AreFirstTwo-unique v w x y n (e, p, inl q) (f, r, inl s) = (omega (arith, e, f, q, s), omega (arith, e, f, q, s))
AreFirstTwo-unique v w x y n (e, p, inl q) (f, r, inr s) = (omega (arith, e, f, p, q, s), omega (arith, e, f, p, q, s))
AreFirstTwo-unique v w x y n (e, p, inr q) (f, r, inl s) = (omega (arith, e, f, r, q, s), omega (arith, e, f, r, q, s))
AreFirstTwo-unique v w x y n (e, p, inr q) (f, r, inr s) = (q ∙ sym s, omega (arith, e, f, q, s))

-- contents octets mean one list of components
pub ObjectIdentifierContents-unique : (ms ns contents : List ℕ) → ObjectIdentifierContents ms contents →
    ObjectIdentifierContents ns contents → ms ≡ ns
ObjectIdentifierContents-unique [] ns contents p q = absurd p
ObjectIdentifierContents-unique (v ∷ []) ns contents p q = absurd p
ObjectIdentifierContents-unique (v ∷ w ∷ ms) [] contents p q = absurd q
ObjectIdentifierContents-unique (v ∷ w ∷ ms) (x ∷ []) contents p q = absurd q
ObjectIdentifierContents-unique (v ∷ w ∷ ms) (x ∷ y ∷ ns) contents (b, octets, e, f, s) (c, rest, g, h, t) =
    let whole : b ∷ octets ≡ c ∷ rest = sym e ∙ g in
    let same : c ≡ b = cc in
    let left : rest ≡ octets = cc in
    let first = AreFirstTwo-unique v w x y b f (subst (AreFirstTwo x y) same h) in
    let others : ms ≡ ns = Subidentifiers-unique ms ns octets s (subst (Subidentifiers ns) left t) in
    let first_is : v ≡ x = first.0 in
    let second_is : w ≡ y = first.1 in
    cc

-- each number is that of a pair of first components
pub AreFirstTwo-some : (b : ℕ) → (x : ℕ) × (y : ℕ) × AreFirstTwo x y b
AreFirstTwo-some b = elim (cases_lt b 40) [
  | inl low ↦ (0, b, (omega arith, omega arith, inl low))
  | inr above ↦ elim (cases_lt b 80) [
    | inl middle ↦ (1, b - 40, (omega (arith, above), omega arith, inl (omega (arith, above, middle))))
    | inr high ↦ (2, b - 80, (omega (arith, high), omega arith, inr refl))
  ]
]

-- contents octets whose first octet stands before no subidentifiers mean no components
ObjectIdentifierContents-no_subidentifiers : (b : ℕ) (octets : List ℕ) →
    ((ns : List ℕ) → Subidentifiers ns octets → ⊥) → (ns : List ℕ)
    → ObjectIdentifierContents ns (b ∷ octets) → ⊥
ObjectIdentifierContents-no_subidentifiers b octets none [] p = p
ObjectIdentifierContents-no_subidentifiers b octets none (x ∷ []) p = p
ObjectIdentifierContents-no_subidentifiers b octets none (x ∷ y ∷ ns) (c, rest, e, f, s) =
    let left : rest ≡ octets = cc in
    none ns (subst (Subidentifiers ns) left s)

-- contents octets that are empty mean no components
ObjectIdentifierContents-not_nil : (ns : List ℕ) → ObjectIdentifierContents ns [] → ⊥
ObjectIdentifierContents-not_nil [] p = p
ObjectIdentifierContents-not_nil (x ∷ []) p = p
ObjectIdentifierContents-not_nil (x ∷ y ∷ ns) (c, rest, e, f, s) = cc

-- an octet, and octets behind it of which the last ends a subidentifier, mean components
pub ObjectIdentifierContents-ended : (b : ℕ) (octets : List ℕ) → get_or octets (length octets - 1) 0 < 128
    → (ns : List ℕ) × ObjectIdentifierContents ns (b ∷ octets)
ObjectIdentifierContents-ended b octets low =
    let f = AreFirstTwo-some b in
    let s = Subidentifiers-ended octets low in
    (f.0 ∷ f.1 ∷ s.0, (b, octets, refl, f.2, s.1))

-- an octet, and octets behind it of which the last ends no subidentifier, mean no components
pub ObjectIdentifierContents-unended : (b : ℕ) (octets : List ℕ) → 128 ≤ get_or octets (length octets - 1) 0 →
    (ns : List ℕ)
    → ObjectIdentifierContents ns (b ∷ octets) → ⊥
ObjectIdentifierContents-unended b octets high =
    ObjectIdentifierContents-no_subidentifiers b octets (Subidentifiers-unended octets high)

-- contents octets that mean no components have a fault
pub ObjectIdentifierContents-or_fault : (contents : List ℕ)
    → ((ns : List ℕ) × ObjectIdentifierContents ns contents) ⊎ ((e : DecodeFault) × ObjectIdentifierFault contents e)
ObjectIdentifierContents-or_fault [] = inr (incomplete, (refl, ObjectIdentifierContents-not_nil))
ObjectIdentifierContents-or_fault (b ∷ octets) = elim (cases_lt (get_or octets (length octets - 1) 0) 128) [
  | inl low ↦ inl (ObjectIdentifierContents-ended b octets low)
  | inr high ↦ inr (incomplete, (refl, ObjectIdentifierContents-unended b octets high))
]

-- the fault of contents octets that mean no components is one of reading
pub ObjectIdentifierFault-of_reading : (contents : List ℕ) (e : DecodeFault) → ObjectIdentifierFault contents e →
    IsOfReading e
ObjectIdentifierFault-of_reading contents e f = subst IsOfReading (sym f.0) tt

-- components whose first two are of an octet can be written
object_identifier_write_fault-first_two : (x y b : ℕ) (ns : List ℕ) → b < 256 → AreFirstTwo x y b →
    object_identifier_write_fault (x ∷ y ∷ ns) ≡ None
object_identifier_write_fault-first_two x y b ns small (e, p, inl q) = grind (arith, e, p, q, small)
object_identifier_write_fault-first_two x y b ns small (e, p, inr q) = grind (arith, e, p, q, small)

-- components that octets mean can be written
pub object_identifier_write_fault-read : (ns contents : List ℕ) → All (λ b. b < 256) contents →
    ObjectIdentifierContents ns contents
    → object_identifier_write_fault ns ≡ None
object_identifier_write_fault-read [] contents all p = absurd p
object_identifier_write_fault-read (x ∷ []) contents all p = absurd p
object_identifier_write_fault-read (x ∷ y ∷ ns) contents all (b, rest, e, f, s) =
    object_identifier_write_fault-first_two x y b ns (All-head (λ b. b < 256) b rest (subst (All (λ b. b < 256)) e all))
    f

-- the first two of components that can be written are those of their octet
AreFirstTwo-writable : (x y : ℕ) (ns : List ℕ) → object_identifier_write_fault (x ∷ y ∷ ns) ≡ None →
    AreFirstTwo x y (40 * x + y)
AreFirstTwo-writable x y ns fits = (refl, grind (arith, fits), grind (arith, fits))

-- contents octets that are written of faithful components mean them
pub ObjectIdentifierContents-written : (ns : List ℕ) → IsFaithfulObjectIdentifier ns →
    ObjectIdentifierContents ns (object_identifier_contents ns)
ObjectIdentifierContents-written [] f = cc
ObjectIdentifierContents-written (x ∷ []) f = cc
ObjectIdentifierContents-written (x ∷ y ∷ ns) f =
    (40 * x + y, flat_map shortest_base128 ns, refl, AreFirstTwo-writable x y ns f, Subidentifiers-shortest ns)

-- faithful components can be written
pub object_identifier_write_fault-faithful : (ns : List ℕ) → IsFaithfulObjectIdentifier ns →
    object_identifier_write_fault ns ≡ None
object_identifier_write_fault-faithful ns f = f

-- components that can be written are faithful where what is written means them
pub IsFaithfulObjectIdentifier-written : (ns : List ℕ) → object_identifier_write_fault ns ≡ None →
    ObjectIdentifierContents ns (object_identifier_contents ns)
    → IsFaithfulObjectIdentifier ns
IsFaithfulObjectIdentifier-written ns fits p = fits

-- components that octets mean are faithful
pub IsFaithfulObjectIdentifier-read : (ns contents : List ℕ) → All (λ b. b < 256) contents →
    ObjectIdentifierContents ns contents
    → IsFaithfulObjectIdentifier ns
IsFaithfulObjectIdentifier-read ns contents all p = object_identifier_write_fault-read ns contents all p
