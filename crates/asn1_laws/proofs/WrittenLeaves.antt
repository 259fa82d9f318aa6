-- What is written of a faithful leaf is DER exactly if the leaf is one of DER, for `laws::law_written_is_der`.
use Rattle.std.proofs.Common.{◌≡◌, ◌≢◌, ◌==◌, ℕ, zero, suc, ◌+◌, ◌-◌, ◌*◌, ◌%◌, ◌<◌, ◌≤◌, ◌^◌, Bool, true, false, not, List, [], ◌∷◌, ◌++◌, inl, inr, length, refl, sym, ap, ap₂, ◌∙◌, arith, length-append}
use Rattle.std.specs.Prelude.{ℤ, encode_utf8_all, ◌&&◌, ◌||◌, nat_lt, if◌then◌else◌}
use Rattle.std.specs.List.{flat_map}
use Rattle.std.proofs.lemmas.Bool.{and_from, cases_Bool, cases_lt, eqb-true, false≢true, and_right}
use Rattle.std.proofs.lemmas.Bool.Decides.{nat_tests}
use Rattle.std.proofs.lemmas.Str.{is_utf8-from_IsUtf8}
use Rattle.asn1_numbers.specs.TwosComplement.{shortest_octets}
use Rattle.asn1_numbers.specs.Base128.{IsContinued, shortest_base128}
use Rattle.asn1_numbers.proofs.SignedNumbers.{shortest_octets-not_ones, shortest_octets-not_empty, shortest_octets-not_zeros}
use Rattle.asn1_headers.proofs.Shortest.{IsBase128-shortest, shortest_base128-not_80}
use Rattle.asn1_leaves.specs.Contents.BitString.{IsFaithfulBitString, bit_string_contents}
use Rattle.asn1_leaves.specs.Contents.ObjectIdentifier.{IsFaithfulObjectIdentifier, object_identifier_contents}
use Rattle.asn1_leaves.specs.StringKind.{utf8, printable, teletex, ia5, universal, bmp}
use Rattle.asn1_blocks.specs.Contents.{IsFaithfulLeaf, leaf_contents, leaf_tag}
use Rattle.asn1_blocks.specs.Tree.{Leaf, boolean, integer, bit_string, octet_string, null, object_identifier, text, utc_time, generalized_time}
use Rattle.asn1_der.specs.Contents.{HasDerContents, HasDerTime, has_der_octets, are_subidentifiers, is_bit_string, is_integer}
use Rattle.asn1_der.specs.Padding.{has_padded_component, is_padded_from, last_octet}
use Rattle.asn1_laws.specs.DerTrees.{are_der_bits, are_der_components, is_der_leaf}
use Rattle.asn1_leaves.proofs.Fractions.{get_or-last_cons}
use Rattle.asn1_laws.proofs.Leaves.{bit_string_contents-some, IsContinued-not_empty}
use Rattle.asn1_laws.proofs.WrittenTimes.{IsGeneralizedTime-written}

-- octets, one or more, whose first nine bits are neither all 0 nor all 1 are an INTEGER of DER
is_integer-unpadded :
    (octets : List ℕ) → 0 < length octets → ((c : ℕ) (more : List ℕ) → c < 128 → octets ≢ 0 ∷ c ∷ more)
    → ((c : ℕ) (more : List ℕ) → 128 ≤ c → octets ≢ 255 ∷ c ∷ more) → is_integer octets ≡ true
is_integer-unpadded [] some zeros ones = absurd (omega (arith, some))
is_integer-unpadded (b ∷ []) some zeros ones = refl
is_integer-unpadded (b ∷ c ∷ more) some zeros ones = elim (cases_lt c 128) [
  | inl low ↦ let is : nat_lt c 128 ≡ true = grind (arith, nat_tests, low) in
      ap (λ z. not (if z then b == 0 else (b == 255))) is
      ∙ elim (cases_Bool (b == 0)) [
        | inl e ↦ absurd (zeros c more low (ap (λ z. z ∷ c ∷ more) (eqb-true b 0 e)))
        | inr e ↦ ap not e
      ]
  | inr high ↦ let is : nat_lt c 128 ≡ false = grind (arith, nat_tests, high) in
      ap (λ z. not (if z then b == 0 else (b == 255))) is
      ∙ elim (cases_Bool (b == 255)) [
        | inl e ↦ absurd (ones c more high (ap (λ z. z ∷ c ∷ more) (eqb-true b 255 e)))
        | inr e ↦ ap not e
      ]
]

-- the shortest octets of a number are contents octets of DER
is_integer-shortest_octets : (n : ℤ) → is_integer (shortest_octets n) ≡ true
is_integer-shortest_octets n =
    is_integer-unpadded (shortest_octets n) (shortest_octets-not_empty n) (shortest_octets-not_zeros n)
    (shortest_octets-not_ones n)

-- a BIT STRING has fewer than 8 unused bits exactly if its octets have fewer than 8 bits more than are used
nat_lt-unused : (n size unused : ℕ) → n ≤ size → unused ≡ size - n → nat_lt unused 8 ≡ nat_lt size (n + 8)
nat_lt-unused n size unused enough e = elim (cases_lt unused 8) [
  | inl low ↦ grind (arith, nat_tests, low, e, enough)
  | inr high ↦ grind (arith, nat_tests, high, e, enough)
]

-- octets of some bits, behind the number of unused ones, are DER exactly if at most 7 are unused, and these are 0
is_bit_string-some :
    (n : ℕ) (v : List ℕ) → 0 < n → n ≤ 8 * length v → is_bit_string ((8 * length v - n) ∷ v) ≡ are_der_bits n v
is_bit_string-some n [] some enough = absurd (omega (arith, some, enough))
is_bit_string-some n (first ∷ more) some enough =
    let v = first ∷ more in
    let is : nat_lt 0 n ≡ true = grind (arith, nat_tests, some) in
    ap (λ z. z && (last_octet v % (2 ^ (8 * length v - n)) == 0))
    (nat_lt-unused n (8 * length v) (8 * length v - n) enough refl)
    ∙ ap (λ z. z && nat_lt (8 * length v) (n + 8) && (last_octet v % (2 ^ (8 * length v - n)) == 0)) (sym is)

-- what is written of a faithful BIT STRING is DER exactly if it has bits, and at most 7 unused ones, which are 0
is_bit_string-bit_string_contents : (n : ℕ) (v : List ℕ) → IsFaithfulBitString n v →
    is_bit_string (bit_string_contents n v) ≡ are_der_bits n v
is_bit_string-bit_string_contents zero v f = refl
is_bit_string-bit_string_contents (suc n) v (inl f) = absurd (omega (arith, f.0))
is_bit_string-bit_string_contents (suc n) v (inr (some, enough, few, fits)) =
    ap is_bit_string (bit_string_contents-some (suc n) v some) ∙ is_bit_string-some (suc n) v some enough

-- subidentifiers behind others in an OBJECT IDENTIFIER: the last is ended, and none begins with an octet 80
record FollowUnpadded (octets : List ℕ) : Type 0 where
  pub last : 0 < length octets → last_octet octets < 128
  pub unpadded : is_padded_from true octets ≡ false

-- no octet 80 stands in front where a subidentifier begins, if octets that begin one do not begin with 80
and-not_leading : (begins : Bool) (b : ℕ) (front : List ℕ) →
    (begins ≡ true → (more : List ℕ) → b ∷ front ≢ 128 ∷ more) →
    (begins && (b == 128)) ≡ false
and-not_leading false b front other = refl
and-not_leading true b front other = elim (cases_Bool (b == 128)) [
  | inl e ↦ absurd (other refl front (ap (λ z. z ∷ front) (eqb-true b 128 e)))
  | inr e ↦ e
]

-- the last octet is below 80 if the last behind the first one is, or if the first one is where there are no more
last_octet-cons-lt : (b : ℕ) (rest : List ℕ) → (0 < length rest → last_octet rest < 128) → (length rest ≡ 0 → b < 128) →
    last_octet (b ∷ rest) < 128
last_octet-cons-lt b [] h low = low refl
last_octet-cons-lt b (c ∷ rest) h low = omega (arith, get_or-last_cons b c rest, h (omega arith))

-- a subidentifier that does not begin with an octet 80, and unpadded, ended ones behind it, are unpadded and ended
is_padded_from-continued :
    (first rest : List ℕ) (begins : Bool) → IsContinued first → (begins ≡ true → (more : List ℕ) → first ≢ 128 ∷ more) →
    FollowUnpadded rest →
    (is_padded_from begins (first ++ rest) ≡ false) × (last_octet (first ++ rest) < 128)
is_padded_from-continued [] rest begins p other e = absurd p
is_padded_from-continued (b ∷ []) rest begins p other e =
    let ends : nat_lt b 128 ≡ true = grind (arith, nat_tests, p) in (
      ap₂ (λ x y. x || is_padded_from y rest) (and-not_leading begins b [] (λ t more f. other t more f)) ends
          ∙ e.unpadded,
      last_octet-cons-lt b rest e.last (λ none. p),
    )
is_padded_from-continued (b ∷ c ∷ first) rest begins (high, p) other e =
    let goes : nat_lt b 128 ≡ false = grind (arith, nat_tests, high) in
    let i = is_padded_from-continued (c ∷ first) rest false p (λ t. absurd (false≢true t)) e in (
      ap₂ (λ x y. x || is_padded_from y ((c ∷ first) ++ rest)) (and-not_leading begins b (c ∷ first) other) goes ∙ i.0,
      omega (arith, get_or-last_cons b c (first ++ rest), i.1),
    )

-- of the shortest subidentifiers of numbers the last is ended, and none begins with an octet 80
FollowUnpadded-shortest : (ns : List ℕ) → FollowUnpadded (flat_map shortest_base128 ns)
FollowUnpadded-shortest [] = record { last = λ some. absurd (omega (arith, some)); unpadded = refl }
FollowUnpadded-shortest (n ∷ ns) =
    let i = is_padded_from-continued (shortest_base128 n) (flat_map shortest_base128 ns) true
    (IsBase128-shortest n).continued
    (λ t. shortest_base128-not_80 n) (FollowUnpadded-shortest ns) in
    record { last = λ some. i.1; unpadded = i.0 }

-- behind an octet with bit 8 set, the shortest subidentifiers are not padded
is_padded_from-shortest : (n : ℕ) (ns : List ℕ) → is_padded_from false (flat_map shortest_base128 (n ∷ ns)) ≡ false
is_padded_from-shortest n ns =
    (is_padded_from-continued (shortest_base128 n) (flat_map shortest_base128 ns) false (IsBase128-shortest n).continued
    (λ t. absurd (false≢true t)) (FollowUnpadded-shortest ns)).0

-- octets, one or more, are subidentifiers of DER if the last octet is below 80 and no subidentifier is padded
are_subidentifiers-ended : (octets : List ℕ) → 0 < length octets → last_octet octets < 128 →
    has_padded_component octets ≡ false →
    are_subidentifiers octets ≡ true
are_subidentifiers-ended octets some low unpadded =
    let a : nat_lt 0 (length octets) ≡ true = grind (arith, nat_tests, some) in
    let b : nat_lt (last_octet octets) 128 ≡ true = grind (arith, nat_tests, low) in
    and_from (nat_lt 0 (length octets) && nat_lt (last_octet octets) 128) (not (has_padded_component octets))
    (and_from (nat_lt 0 (length octets)) (nat_lt (last_octet octets) 128) a b) (ap not unpadded)

-- octets in which a subidentifier is padded are no subidentifiers of DER
are_subidentifiers-padded : (octets : List ℕ) → has_padded_component octets ≡ true → are_subidentifiers octets ≡ false
are_subidentifiers-padded octets e =
    and_right (nat_lt 0 (length octets) && nat_lt (last_octet octets) 128) (not (has_padded_component octets))
    (ap not e)

-- octets whose last one is not below 80 are no subidentifiers of DER
are_subidentifiers-unended : (octets : List ℕ) → 128 ≤ last_octet octets → are_subidentifiers octets ≡ false
are_subidentifiers-unended octets high =
    let b : nat_lt (last_octet octets) 128 ≡ false = grind (arith, nat_tests, high) in
    ap (λ z. z && not (has_padded_component octets))
    (and_right (nat_lt 0 (length octets)) (nat_lt (last_octet octets) 128) b)

-- the shortest subidentifiers of one number or more are not empty
length-shortest-positive : (n : ℕ) (ns : List ℕ) → 0 < length (flat_map shortest_base128 (n ∷ ns))
length-shortest-positive n ns =
    omega (
      arith,
      IsContinued-not_empty (shortest_base128 n) (IsBase128-shortest n).continued,
      length-append (shortest_base128 n) (flat_map shortest_base128 ns),
    )

-- an octet before the shortest subidentifiers is DER with them if it is below 128, or if it is above 128 and some
-- follow
are_subidentifiers-cons :
    (b : ℕ) (ns : List ℕ) →
    are_subidentifiers (b ∷ flat_map shortest_base128 ns) ≡ (nat_lt b 128 || (nat_lt 128 b && nat_lt 0 (length ns)))
are_subidentifiers-cons b ns = elim (cases_lt b 128) [
  | inl low ↦ let is : nat_lt b 128 ≡ true = grind (arith, nat_tests, low) in
      let other : (b == 128) ≡ false = grind (arith, nat_tests, low) in
      let rest = FollowUnpadded-shortest ns in
      are_subidentifiers-ended (b ∷ flat_map shortest_base128 ns) (omega arith)
      (last_octet-cons-lt b (flat_map shortest_base128 ns) rest.last (λ none. low))
      (ap₂ (λ x y. x || is_padded_from y (flat_map shortest_base128 ns)) other is ∙ rest.unpadded)
      ∙ sym (ap (λ z. z || (nat_lt 128 b && nat_lt 0 (length ns))) is)
  | inr high ↦ elim (cases_lt 128 b) [
    | inr le ↦ let is : b ≡ 128 = omega (arith, high, le) in
        ap (λ z. are_subidentifiers (z ∷ flat_map shortest_base128 ns)) is
        ∙ (are_subidentifiers-padded (128 ∷ flat_map shortest_base128 ns) refl
        ∙ sym (ap (λ z. nat_lt z 128 || (nat_lt 128 z && nat_lt 0 (length ns))) is))
    | inl above ↦ by_more b ns above
  ]
]
  where
    -- for an octet above 80, the test for one below 80, or above it with a condition, is the condition
    right_is : (b : ℕ) → 128 < b → (c : Bool) → (nat_lt b 128 || (nat_lt 128 b && c)) ≡ c
    right_is b above c =
        let x : nat_lt b 128 ≡ false = grind (arith, nat_tests, above) in
        let y : nat_lt 128 b ≡ true = grind (arith, nat_tests, above) in
        ap₂ (λ u v. u || (v && c)) x y

    -- an octet above 80 before the shortest subidentifiers is DER with them exactly if there are some
    by_more :
        (b : ℕ) (ns : List ℕ) → 128 < b →
        are_subidentifiers (b ∷ flat_map shortest_base128 ns) ≡ (nat_lt b 128 || (nat_lt 128 b && nat_lt 0 (length ns)))
    by_more b [] above = are_subidentifiers-unended (b ∷ []) (omega (arith, above)) ∙ sym (right_is b above false)
    by_more b (n ∷ ns) above =
        let rest = flat_map shortest_base128 (n ∷ ns) in
        let ended = FollowUnpadded-shortest (n ∷ ns) in
        let goes : nat_lt b 128 ≡ false = grind (arith, nat_tests, above) in
        let other : (b == 128) ≡ false = grind (arith, nat_tests, above) in
        let more : nat_lt 0 (length (n ∷ ns)) ≡ true = grind (arith, nat_tests) in
        are_subidentifiers-ended (b ∷ rest) (omega arith)
        (last_octet-cons-lt b rest ended.last (λ none. absurd (omega (arith, none, length-shortest-positive n ns))))
        (ap₂ (λ x y. x || is_padded_from y rest) other goes ∙ is_padded_from-shortest n ns)
        ∙ (sym more ∙ sym (right_is b above (nat_lt 0 (length (n ∷ ns)))))

-- what is written of a faithful OBJECT IDENTIFIER is DER exactly if its components are of DER
are_subidentifiers-object_identifier_contents :
    (ns : List ℕ) → IsFaithfulObjectIdentifier ns →
    are_subidentifiers (object_identifier_contents ns) ≡ are_der_components ns
are_subidentifiers-object_identifier_contents [] f = absurd cc
are_subidentifiers-object_identifier_contents (x ∷ []) f = absurd cc
are_subidentifiers-object_identifier_contents (x ∷ y ∷ ns) f = are_subidentifiers-cons (40 * x + y) ns

-- the octets that are written of a faithful leaf keep the rules for its type exactly if the leaf is one of DER
has_der_octets-leaf_contents : (l : Leaf) → IsFaithfulLeaf l →
    has_der_octets (leaf_tag l) (leaf_contents l) ≡ is_der_leaf l
has_der_octets-leaf_contents (boolean true) f = refl
has_der_octets-leaf_contents (boolean false) f = refl
has_der_octets-leaf_contents (integer n) f = is_integer-shortest_octets n
has_der_octets-leaf_contents (bit_string n v) f = is_bit_string-bit_string_contents n v f
has_der_octets-leaf_contents (octet_string v) f = refl
has_der_octets-leaf_contents null f = refl
has_der_octets-leaf_contents (object_identifier ns) f = are_subidentifiers-object_identifier_contents ns f
has_der_octets-leaf_contents (text utf8 cs) f = is_utf8-from_IsUtf8 (encode_utf8_all cs) (cs, (f, refl))
has_der_octets-leaf_contents (text printable cs) f = f
has_der_octets-leaf_contents (text teletex cs) f = refl
has_der_octets-leaf_contents (text ia5 cs) f = refl
has_der_octets-leaf_contents (text universal cs) f = refl
has_der_octets-leaf_contents (text bmp cs) f = refl
has_der_octets-leaf_contents (utc_time m) f = refl
has_der_octets-leaf_contents (generalized_time m) f = refl

-- times that are written are DER
HasDerTime-leaf_contents : (l : Leaf) → IsFaithfulLeaf l → HasDerTime (leaf_tag l) (leaf_contents l)
HasDerTime-leaf_contents (boolean b) f = tt
HasDerTime-leaf_contents (integer n) f = tt
HasDerTime-leaf_contents (bit_string n v) f = tt
HasDerTime-leaf_contents (octet_string v) f = tt
HasDerTime-leaf_contents null f = tt
HasDerTime-leaf_contents (object_identifier ns) f = tt
HasDerTime-leaf_contents (text utf8 cs) f = tt
HasDerTime-leaf_contents (text printable cs) f = tt
HasDerTime-leaf_contents (text teletex cs) f = tt
HasDerTime-leaf_contents (text ia5 cs) f = tt
HasDerTime-leaf_contents (text universal cs) f = tt
HasDerTime-leaf_contents (text bmp cs) f = tt
HasDerTime-leaf_contents (utc_time m) f = (m, (f, refl))
HasDerTime-leaf_contents (generalized_time m) f = IsGeneralizedTime-written m f

-- the octets that are written of a faithful leaf of DER are contents octets of DER with its tag
pub HasDerContents-leaf_contents : (l : Leaf) → IsFaithfulLeaf l → is_der_leaf l ≡ true →
    HasDerContents (leaf_tag l) (leaf_contents l)
HasDerContents-leaf_contents l f t = (has_der_octets-leaf_contents l f ∙ t, HasDerTime-leaf_contents l f)

-- a faithful leaf is one of DER if the octets that are written of it are contents octets of DER with its tag
pub is_der_leaf-leaf_contents : (l : Leaf) → IsFaithfulLeaf l → HasDerContents (leaf_tag l) (leaf_contents l) →
    is_der_leaf l ≡ true
is_der_leaf-leaf_contents l f h = sym (has_der_octets-leaf_contents l f) ∙ h.0
