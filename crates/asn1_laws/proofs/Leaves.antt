-- Contents octets of leaves that are DER are written as they came, or are among those that are written otherwise, for
-- the laws of this crate.
use Rattle.std.proofs.Common.{◌≡◌, ◌≢◌, ◌==◌, ℕ, zero, suc, ◌+◌, ◌-◌, ◌*◌, ◌<◌, Bool, true, false, not, List, [], ◌∷◌, ◌++◌, inl, inr, length, refl, sym, ap, ap₂, ◌∙◌, subst, arith, IsTrue}
use Rattle.std.specs.Prelude.{ℤ, ◌&&◌, ◌||◌, nat_lt, if◌then◌else◌}
use Rattle.std.specs.List.{flat_map}
use Rattle.std.proofs.lemmas.Bool.{and_parts, cases_Bool, cases_lt, eqb-true, false≢true, not-true, or_parts}
use Rattle.std.proofs.Math.Bool.{and-false}
use Rattle.std.proofs.lemmas.Bool.Decides.{nat_tests}
use Rattle.std.proofs.lemmas.List.Elements.{recursion_from_All}
use Rattle.asn1_numbers.specs.Octets.{AreOctets}
use Rattle.asn1_numbers.specs.TwosComplement.{shortest_octets}
use Rattle.asn1_numbers.specs.Base128.{IsContinued, shortest_base128}
use Rattle.asn1_headers.proofs.Shortest.{IsBase128-shortest, shortest_base128-not_80}
use Rattle.asn1_numbers.proofs.SignedNumbers.{IsShortestSigned-needed, sign_before}
use Rattle.asn1_leaves.specs.Contents.BitString.{BitStringContents, bit_string_contents}
use Rattle.asn1_leaves.specs.Contents.Boolean.{BooleanContents, boolean_contents}
use Rattle.asn1_leaves.specs.Contents.Integer.{IntegerContents}
use Rattle.asn1_leaves.specs.Contents.ObjectIdentifier.{ObjectIdentifierContents, object_identifier_contents}
use Rattle.asn1_leaves.proofs.ShortSubidentifiers.{NoneLeads, NoneLeads-object_identifier_contents}
use Rattle.asn1_der.specs.Contents.{are_subidentifiers, is_bit_string, is_boolean, is_integer}
use Rattle.asn1_der.specs.Padding.{has_padded_component, is_padded_from, last_octet}
use Rattle.asn1_leaves.proofs.Fractions.{get_or-last_cons}
use Rattle.asn1_laws.specs.Spellings.{goes_on_with_80, has_no_bits}
use Rattle.asn1_leaves.proofs.Leaves.BitString.{bit_string_contents-suc}

-- the octet of a BOOLEAN that is DER is the octet that is written for it
octet_of_boolean : (x : ℕ) → ((x == 0) || (x == 255)) ≡ true → x ≡ (if not (x == 0) then 255 else 0)
octet_of_boolean x t = elim (cases_Bool (x == 0)) [
  | inl e ↦ eqb-true x 0 e ∙ sym (ap (λ b. if not b then 255 else 0) e)
  | inr e ↦ let is : (x == 255) ≡ true = sym (ap (λ b. b || (x == 255)) e) ∙ t in
      eqb-true x 255 is ∙ sym (ap (λ b. if not b then 255 else 0) e)
]

-- contents octets of DER that mean a BOOLEAN are the octets that are written of it
pub BooleanContents-der : (b : Bool) (contents : List ℕ) → BooleanContents b contents → is_boolean contents ≡ true →
    contents ≡ boolean_contents b
BooleanContents-der b contents (x, e, is) der =
    let octet = octet_of_boolean x (sym (ap is_boolean e) ∙ der) in
    e ∙ (ap (λ z. z ∷ []) octet ∙ ap (λ z. (if z then 255 else 0) ∷ []) (sym is))

-- the first octet of an INTEGER that is DER does not only repeat the sign of the second
sign_before-needed : (b c : ℕ) → (if nat_lt c 128 then b == 0 else (b == 255)) ≡ false → b ≢ sign_before c
sign_before-needed b c t e = elim (cases_lt c 128) [
  | inl low ↦ grind (arith, nat_tests, t, e, low)
  | inr high ↦ grind (arith, nat_tests, t, e, high)
]

-- contents octets of DER that mean a number are the shortest octets of the number
pub IntegerContents-der : (n : ℤ) (contents : List ℕ) → AreOctets contents → IntegerContents n contents →
    is_integer contents ≡ true → contents ≡ shortest_octets n
IntegerContents-der n [] all is der = absurd cc
IntegerContents-der n (b ∷ []) all is der =
    IsShortestSigned-needed b [] (recursion_from_All (λ x. x < 256) (b ∷ []) all) (λ some. absurd (omega (arith, some)))
    ∙ ap shortest_octets (sym is)
IntegerContents-der n (b ∷ c ∷ more) all is der =
    IsShortestSigned-needed b (c ∷ more) (recursion_from_All (λ x. x < 256) (b ∷ c ∷ more) all)
    (λ some. sign_before-needed b c (not-true _ der)) ∙ ap shortest_octets (sym is)

-- a BIT STRING of one bit or more is written as the number of unused bits and the octets of the bits
pub bit_string_contents-some : (n : ℕ) (v : List ℕ) → 0 < n → bit_string_contents n v ≡ (8 * length v - n) ∷ v
bit_string_contents-some zero v some = absurd (omega (arith, some))
bit_string_contents-some (suc n) v some = bit_string_contents-suc n v

-- a BIT STRING of DER that has octets of bits has fewer than 8 unused bits
pub is_bit_string-few_unused : (unused first : ℕ) (more : List ℕ) → is_bit_string (unused ∷ first ∷ more) ≡ true →
    unused < 8
is_bit_string-few_unused unused first more t = let e = (and_parts (nat_lt unused 8) _ t).0 in
    grind (arith, nat_tests, e)

-- contents octets of DER that mean a BIT STRING are the octets that are written of it, unless it has no bits
pub BitStringContents-der :
    (n : ℕ) (v contents : List ℕ) → BitStringContents n v contents → is_bit_string contents ≡ true →
    has_no_bits contents ≡ false →
    contents ≡ bit_string_contents n v
BitStringContents-der n v [] p der some = absurd cc
BitStringContents-der n v (u ∷ []) p der some = absurd cc
BitStringContents-der n v (u ∷ first ∷ more) (same, size, fits) der some =
    let few = is_bit_string-few_unused u first more der in
    let bits : 0 < n = omega (arith, few, size, ap length same) in
    let unused : u ≡ 8 * length v - n = omega (arith, size) in
    ap₂ (λ x y. x ∷ y) unused (sym same) ∙ sym (bit_string_contents-some n v bits)

-- contents octets that are written of bits are not one octet, which means no bits
pub has_no_bits-written :
    (n : ℕ) (v contents : List ℕ) → BitStringContents n v contents → is_bit_string contents ≡ true →
    contents ≡ bit_string_contents n v → has_no_bits contents ≡ false
has_no_bits-written n v [] p der e = absurd cc
has_no_bits-written n v (u ∷ []) (same, size, fits) der e =
    let none : n ≡ 0 = omega (arith, size, ap length same) in
    absurd (omega (arith, ap length (e ∙ ap (λ z. bit_string_contents z v) none)))
has_no_bits-written n v (u ∷ first ∷ more) p der e = elim (cases_Bool (has_no_bits (u ∷ first ∷ more))) [
  | inl one ↦ absurd (omega (arith, eqb-true (length (u ∷ first ∷ more)) 1 one))
  | inr not_one ↦ not_one
]

-- where the last octet is below 80, the last of the octets behind the first is below 80, if there are any
last_octet-tail : (b : ℕ) (octets : List ℕ) → 0 < length octets → last_octet (b ∷ octets) < 128 →
    last_octet octets < 128
last_octet-tail b [] some low = absurd (omega (arith, some))
last_octet-tail b (c ∷ octets) some low = omega (arith, low, get_or-last_cons b c octets)

-- where no subidentifier of an OBJECT IDENTIFIER is padded and the last is ended, none begins with an octet 80
NoneLeads-unpadded : (begins : Bool) (octets : List ℕ) → is_padded_from begins octets ≡ false →
    (length octets ≡ 0 → IsTrue begins)
    → (0 < length octets → last_octet octets < 128) → NoneLeads begins octets
NoneLeads-unpadded begins [] padded ended last = ended refl
NoneLeads-unpadded begins (b ∷ octets) padded ended last = (
  λ t e. false≢true (sym padded ∙ leading begins b octets t e),
  NoneLeads-unpadded (nat_lt b 128) octets (later begins b octets padded)
      (λ none. ends b octets none (last (omega arith)))
      (λ some. last_octet-tail b octets some (last (omega arith))),
)
  where
    -- octets that begin with an octet 80 where a subidentifier begins have a padded subidentifier
    leading : (begins : Bool) (b : ℕ) (octets : List ℕ) → IsTrue begins → b ≡ 128 →
        is_padded_from begins (b ∷ octets) ≡ true
    leading begins b octets t e =
        ap (λ z. (z && (b == 128)) || is_padded_from (nat_lt b 128) octets) t ∙ grind (arith, nat_tests, e)

    -- where octets have no padded subidentifier, the octets behind the first have none
    later : (begins : Bool) (b : ℕ) (octets : List ℕ) → is_padded_from begins (b ∷ octets) ≡ false →
        is_padded_from (nat_lt b 128) octets ≡ false
    later begins b octets t = (or_parts (begins && (b == 128)) (is_padded_from (nat_lt b 128) octets) t).1

    -- an octet that no others follow is below 80, and ends a subidentifier, if the last octet is below 80
    ends : (b : ℕ) (octets : List ℕ) → length octets ≡ 0 → last_octet (b ∷ octets) < 128 → IsTrue (nat_lt b 128)
    ends b [] none low = grind (arith, nat_tests, low)
    ends b (c ∷ octets) none low = absurd (omega (arith, none))

-- where no subidentifier is padded, and the first does not go on with an octet 80, none is padded if the octets behind
-- the first octet are read as subidentifiers
is_padded_from-behind_first : (b : ℕ) (rest : List ℕ) → is_padded_from true (b ∷ rest) ≡ false →
    goes_on_with_80 (b ∷ rest) ≡ false →
    is_padded_from true rest ≡ false
is_padded_from-behind_first b [] padded on = refl
is_padded_from-behind_first b (c ∷ more) padded on = elim (cases_lt b 128) [
  | inl low ↦ let ends : nat_lt b 128 ≡ true = grind (arith, nat_tests, low) in
      subst (λ z. is_padded_from z (c ∷ more) ≡ false) ends
      (or_parts (true && (b == 128)) (is_padded_from (nat_lt b 128) (c ∷ more)) padded).1
  | inr high ↦ let high' : nat_lt 127 b ≡ true = grind (arith, nat_tests, high) in
      let other : (c == 128) ≡ false = sym (ap (λ z. z && (c == 128)) high') ∙ on in
      let goes : nat_lt b 128 ≡ false = grind (arith, nat_tests, high) in
      let rest : is_padded_from false (c ∷ more) ≡ false =
      subst (λ z. is_padded_from z (c ∷ more) ≡ false) goes
      (or_parts (true && (b == 128)) (is_padded_from (nat_lt b 128) (c ∷ more)) padded).1 in
      ap (λ z. (true && z) || is_padded_from (nat_lt c 128) more) other ∙ rest
]

-- subidentifiers that are DER: the last is ended, and none is padded
pub record EndUnpadded (octets : List ℕ) : Type 0 where
  pub last : last_octet octets < 128
  pub unpadded : has_padded_component octets ≡ false

-- of subidentifiers of DER the last is ended, and none is padded
pub EndUnpadded-subidentifiers : (octets : List ℕ) → are_subidentifiers octets ≡ true → EndUnpadded octets
EndUnpadded-subidentifiers octets t =
    let p =
    and_parts (nat_lt 0 (length octets) && nat_lt (last_octet octets) 128) (not (has_padded_component octets)) t in
    let q = and_parts (nat_lt 0 (length octets)) (nat_lt (last_octet octets) 128) p.0 in
    let low = q.1 in
    record { last = grind (arith, nat_tests, low); unpadded = not-true (has_padded_component octets) p.1 }

-- contents octets of DER that mean an OBJECT IDENTIFIER are the octets that are written of it, unless its first
-- subidentifier goes on with an octet 80
pub ObjectIdentifierContents-der :
    (ns contents : List ℕ) → AreOctets contents → ObjectIdentifierContents ns contents →
    are_subidentifiers contents ≡ true →
    goes_on_with_80 contents ≡ false → contents ≡ object_identifier_contents ns
ObjectIdentifierContents-der ns [] all p der on = absurd cc
ObjectIdentifierContents-der ns (b ∷ rest) all p der on =
    let well = EndUnpadded-subidentifiers (b ∷ rest) der in
    let leads : NoneLeads true rest =
    NoneLeads-unpadded true rest (is_padded_from-behind_first b rest well.unpadded on) (λ none. refl)
    (λ some. last_octet-tail b rest some well.last) in
    NoneLeads-object_identifier_contents ns b rest all leads p

-- continued octets are not empty
pub IsContinued-not_empty : (octets : List ℕ) → IsContinued octets → 0 < length octets
IsContinued-not_empty [] p = absurd p
IsContinued-not_empty (b ∷ octets) p = omega arith

-- octets, one or more, that do not begin with 80 do not with others joined behind them either
append-not_80 : (first rest more : List ℕ) → 0 < length first → ((more : List ℕ) → first ≢ 128 ∷ more) →
    first ++ rest ≢ 128 ∷ more
append-not_80 [] rest more some other e = omega (arith, some)
append-not_80 (a ∷ first) rest more some other e =
    let is : a ≡ 128 = cc in
    other first (ap (λ z. z ∷ first) is)

-- an octet before octets that do not begin with an octet 80 does not go on with one
goes_on_with_80-cons : (b : ℕ) (octets : List ℕ) → ((more : List ℕ) → octets ≢ 128 ∷ more) →
    goes_on_with_80 (b ∷ octets) ≡ false
goes_on_with_80-cons b [] other = refl
goes_on_with_80-cons b (c ∷ octets) other = elim (cases_Bool (c == 128)) [
  | inl e ↦ absurd (other octets (ap (λ z. z ∷ octets) (eqb-true c 128 e)))
  | inr e ↦ ap (λ z. nat_lt 127 b && z) e ∙ and-false (nat_lt 127 b)
]

-- an octet before the shortest subidentifiers of numbers does not go on with an octet 80
goes_on_with_80-shortest : (b : ℕ) (ns : List ℕ) → goes_on_with_80 (b ∷ flat_map shortest_base128 ns) ≡ false
goes_on_with_80-shortest b [] = refl
goes_on_with_80-shortest b (n ∷ ns) =
    goes_on_with_80-cons b (shortest_base128 n ++ flat_map shortest_base128 ns) (λ more.
    append-not_80 (shortest_base128 n) (flat_map shortest_base128 ns) more
    (IsContinued-not_empty (shortest_base128 n) (IsBase128-shortest n).continued) (shortest_base128-not_80 n))

-- a written OBJECT IDENTIFIER does not go on with an octet 80 behind its first octet
pub goes_on_with_80-written :
    (ns contents : List ℕ) → ObjectIdentifierContents ns contents → contents ≡ object_identifier_contents ns →
    goes_on_with_80 contents ≡ false
goes_on_with_80-written [] contents p e = absurd p
goes_on_with_80-written (x ∷ []) contents p e = absurd p
goes_on_with_80-written (x ∷ y ∷ ns) contents p e = ap goes_on_with_80 e ∙ goes_on_with_80-shortest (40 * x + y) ns
