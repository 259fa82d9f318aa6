-- Octets are DER exactly if no departures are listed of them, for `listing::departures` and `listing::list`.
use Rattle.std.proofs.Common.{◌≡◌, ℕ, zero, suc, ◌+◌, ◌<◌, ◌^◌, Bool, true, false, List, [], ◌∷◌, ◌++◌, length, refl, sym, ap, ◌∙◌, subst, arith, length-append}
use Rattle.std.specs.Prelude.{◌↔◌, MatchBool, None, Some}
use Rattle.asn1_headers.specs.Header.{IsLength, shortest_length}
use Rattle.asn1_headers.specs.Indefinite.{is_indefinite}
use Rattle.asn1_headers.specs.declared.header.ASN1Class.{ASN1Class}
use Rattle.asn1_headers.specs.declared.header.ASN1Class.TheVariants.{Universal, Application, ContextSpecific, Private}
use Rattle.asn1_headers.proofs.Prefixes.{Encoding-not_empty}
use Rattle.asn1_der.specs.Der.{IsDer, IsRightAlone, more_encodings, no_encodings}
use Rattle.asn1_der.specs.Steps.{AreDer, HasShortest, IsWhole}
use Rattle.asn1_der.proofs.DerEncodings.{IsWhole-der}
use Rattle.asn1_der.specs.Departures.{Found, IsNext, Lists, ListsInside, OwnRules, TypeFound, encoding_listed, encodings_inside, is_looked_into, kept, none_left, nothing_inside}
use Rattle.asn1_der.specs.declared.rule.Rule.TheVariants.{IndefiniteLength, LongLength}
use Rattle.asn1_der.proofs.Fronts.{IsNext-der, unended_behind-definite}
use Rattle.asn1_der.specs.declared.rule.Departure.{Departure}
use Rattle.asn1_der.proofs.Alone.{Lists-unique}
use Rattle.asn1_der.proofs.Law.{AreDer-none_listed, is_looked_into-definite}
use Rattle.asn1_der.proofs.Shortest.{HasShortest-encoding, is_indefinite-shortest_length}

-- the tag, the form and the contents octets of an encoding of the definite form that is right by itself break no rule
TypeFound-kept : (c : ASN1Class) (k : Bool) (n : ℕ) (v : List ℕ) → IsRightAlone c k n v → TypeFound false c k n v None
TypeFound-kept Universal k n v right = kept right
TypeFound-kept Application k n v right = refl
TypeFound-kept ContextSpecific k n v right = refl
TypeFound-kept Private k n v right = refl

-- an encoding of shortest identifier and length octets that is right by itself breaks no rule by itself
OwnRules-right_alone :
    (id len : List ℕ) (c : ASN1Class) (k : Bool) (n : ℕ) (v : List ℕ) → HasShortest id len c k n (length v) →
    IsRightAlone c k n v → OwnRules id len c k n v
OwnRules-right_alone id len c k n v short right =
    let definite : is_indefinite len ≡ false =
    ap is_indefinite short.len_is ∙ is_indefinite-shortest_length (length v) in
    record {
      of_identifier = None;
      of_length = None;
      of_type = None;
      identifier_found = kept short.identifier_is;
      length_found = subst
          (λ b. MatchBool b (None ≡ Some IndefiniteLength) (Found (len ≡ shortest_length (length v)) LongLength None))
          (sym definite) (kept short.len_is);
      type_found = subst (λ b. TypeFound b c k n v None) (sym definite) (TypeFound-kept c k n v right);
    }

-- no departures stand inside an encoding if its contents octets have none, where they are looked into
ListsInside-none : (o s : ℕ) (b k : Bool) (v : List ℕ) → b ≡ k → (k ≡ true → Lists 0 s v []) → ListsInside o s b v []
ListsInside-none o s b true v same ls = encodings_inside same (ls refl)
ListsInside-none o s b false v same ls = nothing_inside same refl

-- length octets are one or more
IsLength-some : (len : List ℕ) (n : ℕ) → IsLength len n → 0 < length len
IsLength-some [] n p = absurd p
IsLength-some (b ∷ len) n p = omega arith

-- octets that are DER have no departures
pub Lists-none_of_der : (most o : ℕ) (x : List ℕ) → length x < most → length x < 2 ^ 64 → AreDer x → Lists 0 o x []
unfolding OwnRules-right_alone
Lists-none_of_der zero o x less small d = absurd (omega (arith, less))
Lists-none_of_der (suc most) o x less small (items, no_encodings) = none_left refl refl refl
Lists-none_of_der (suc most) o x less small
    (items, more_encodings {first = first} {rest = rest} {items = more} w d ds) =
    let size : length x ≡ length first + length rest = ap length w ∙ length-append first rest in
    let small_first : length first < 2 ^ 64 = omega (arith, small, size) in
    let n : IsNext 0 x first rest = IsNext-der x first rest w small_first d in
    let e = n.encoding in
    let some = Encoding-not_empty first n.class n.constructed n.tag n.contents n.header e in
    let part : length first ≡ length e.identifier + (length e.len + length n.contents) =
    omega (
      arith,
      ap length e.whole,
      length-append e.identifier (e.len ++ n.contents),
      length-append e.len n.contents,
    ) in
    let behind_len = IsLength-some e.len (length n.contents) e.length_octets in
    let whole : IsWhole first n.class n.constructed n.tag n.contents =
    IsWhole-der first n.class n.constructed n.tag n.contents n.header small_first e d in
    let short = HasShortest-encoding first n.class n.constructed n.tag n.contents n.header e small_first
    whole.alone.0 in
    let definite : is_indefinite e.len ≡ false =
    ap is_indefinite short.len_is ∙ is_indefinite-shortest_length (length n.contents) in
    let rules = OwnRules-right_alone e.identifier e.len n.class n.constructed n.tag n.contents short whole.alone.1 in
    encoding_listed n rules
    (ListsInside-none o (o + n.header) (is_looked_into n.constructed e.len) n.constructed n.contents
    (is_looked_into-definite n.constructed e.len definite)
    (λ t. Lists-none_of_der most (o + n.header) n.contents (omega (arith, less, size, part, behind_len))
    (omega (arith, small, size, part)) (whole.items t)))
    (subst (λ u. Lists u (o + length first) rest []) (sym (unended_behind-definite 0 n.constructed e.len definite))
    (Lists-none_of_der most (o + length first) rest (omega (arith, less, size, some)) (omega (arith, small, size))
    (more, ds)))
    refl

-- no departures are listed exactly if the octets are DER
pub Lists-nil_iff_der :
    (x : List ℕ) (found : List Departure) → 0 < length x → length x < 2 ^ 64 → Lists 0 0 x found →
    (found ≡ []) ↔ IsDer x
Lists-nil_iff_der x found some small ls = (
  λ e. let (items, ds) = AreDer-none_listed 0 0 x found ls refl small e in
      record { some = some; items = items; encodings = ds },
  λ d. Lists-unique 0 0 x found [] ls
      (Lists-none_of_der (suc (length x)) 0 x (omega arith) small (d.items, d.encodings)),
)
