-- Octets of which no departures are listed are DER, for `listing::list`.
use Rattle.std.proofs.Common.{◌≡◌, ℕ, ◌+◌, ◌<◌, ◌^◌, Bool, true, false, List, [], ◌∷◌, ◌++◌, length, refl, sym, ap, ◌∙◌, subst, arith, length-append}
use Rattle.std.specs.Prelude.{not, MatchBool, Option, None, Some}
use Rattle.asn1_headers.specs.Header.{shortest_identifier, shortest_length}
use Rattle.asn1_headers.specs.declared.header.ASN1Class.{ASN1Class}
use Rattle.asn1_headers.specs.declared.header.ASN1Class.TheVariants.{Universal, Application, ContextSpecific, Private}
use Rattle.asn1_der.specs.Der.{AreDerEncodings, IsDerEncoding, IsRightAlone, more_encodings, no_encodings}
use Rattle.asn1_der.specs.Steps.{AreDer, IsDerAlone}
use Rattle.asn1_der.proofs.DerEncodings.{IsDerEncoding-whole}
use Rattle.asn1_der.specs.Departures.{Found, Lists, ListsInside, OwnRules, TypeFound, broken, encoding_listed, encodings_inside, end_listed, is_looked_into, kept, listed, no_encodings_inside, none_left, nothing_inside, own_departures, unended_behind}
use Rattle.asn1_headers.specs.Indefinite.{is_indefinite}
use Rattle.asn1_der.specs.Rules.{identifier_rule, type_rule}
use Rattle.asn1_der.specs.declared.rule.Departure.{Departure}
use Rattle.asn1_der.specs.declared.rule.Rule.{Rule}
use Rattle.asn1_der.specs.declared.rule.Rule.TheVariants.{IndefiniteLength, LongLength}
use Rattle.asn1_der.proofs.Fronts.{unended_behind-definite}

-- two lists that are empty when joined are empty
nil_from_append-first : (xs ys : List Departure) → xs ++ ys ≡ [] → xs ≡ []
nil_from_append-first [] ys e = refl
nil_from_append-first (x ∷ xs) ys e = absurd cc

nil_from_append-second : (xs ys : List Departure) → xs ++ ys ≡ [] → ys ≡ []
nil_from_append-second [] ys e = e
nil_from_append-second (x ∷ xs) ys e = absurd cc

-- where no departure is listed for a rule that may be broken, none is broken
listed-nil : (o : ℕ) (r : Option Rule) → listed o r ≡ [] → r ≡ None
listed-nil o None e = refl
listed-nil o (Some rule) e = absurd cc

-- what a rule asks holds if the rule is not found to be broken
Found-none_asked : (Asked : Type 0) (rule : Rule) (found : Option Rule) → Found Asked rule found → found ≡ None → Asked
Found-none_asked Asked rule found (kept a) e = a
Found-none_asked Asked rule found (broken b) e = absurd cc

-- length octets that are found to break no rule are of the definite form, and what is found of that form holds
LengthFound-definite : (b : Bool) (found : Option Rule) (P : Type 0) → MatchBool b (found ≡ Some IndefiniteLength) P →
    found ≡ None → (b ≡ false) × P
LengthFound-definite true found P h e = absurd cc
LengthFound-definite false found P h e = (refl, h)

-- an encoding of the definite form is looked into exactly if it is constructed
pub is_looked_into-definite : (k : Bool) (len : List ℕ) → is_indefinite len ≡ false → is_looked_into k len ≡ k
is_looked_into-definite true len e = ap not e
is_looked_into-definite false len e = refl

-- an encoding of the definite form is right by itself if its tag, form and contents octets are found to break no rule
TypeFound-none_right : (c : ASN1Class) (k : Bool) (n : ℕ) (v : List ℕ) (found : Option Rule) →
    TypeFound false c k n v found →
    found ≡ None → IsRightAlone c k n v
TypeFound-none_right Universal k n v found h e =
    Found-none_asked (IsRightAlone Universal k n v) (type_rule k n v) found h e
TypeFound-none_right Application k n v found h e = tt
TypeFound-none_right ContextSpecific k n v found h e = tt
TypeFound-none_right Private k n v found h e = tt

-- an encoding of the definite form that breaks no rule by itself
record IsAlone (x id len : List ℕ) (c : ASN1Class) (k : Bool) (n : ℕ) (v : List ℕ) : Type 0 where
  definite : is_indefinite len ≡ false
  alone : IsDerAlone x c k n v

-- an encoding with no departures of its own is of the definite form and breaks no rule by itself
IsAlone-no_departures :
    (o : ℕ) (x id len : List ℕ) (c : ASN1Class) (k : Bool) (n : ℕ) (v : List ℕ) (r : OwnRules id len c k n v) →
    x ≡ id ++ (len ++ v) → own_departures o r ≡ [] → IsAlone x id len c k n v
IsAlone-no_departures o x id len c k n v r w e =
    let id_none = listed-nil o r.of_identifier
    (nil_from_append-first (listed o r.of_identifier) (listed o r.of_length ++ listed o r.of_type) e) in
    let more = nil_from_append-second (listed o r.of_identifier) (listed o r.of_length ++ listed o r.of_type) e in
    let len_none = listed-nil o r.of_length (nil_from_append-first (listed o r.of_length) (listed o r.of_type) more) in
    let type_none = listed-nil o r.of_type (nil_from_append-second (listed o r.of_length) (listed o r.of_type) more) in
    let i = Found-none_asked (id ≡ shortest_identifier c k n) (identifier_rule n) r.of_identifier r.identifier_found
    id_none in
    let l = LengthFound-definite (is_indefinite len) r.of_length
    (Found (len ≡ shortest_length (length v)) LongLength r.of_length) r.length_found len_none in
    let s = Found-none_asked (len ≡ shortest_length (length v)) LongLength r.of_length l.1 len_none in
    let t = TypeFound-none_right c k n v r.of_type (subst (λ z. TypeFound z c k n v r.of_type) l.0 r.type_found)
    type_none in
    record {
      definite = l.0;
      alone = (
        record { whole = w ∙ (ap (λ z. z ++ (len ++ v)) i ∙ ap (λ z. shortest_identifier c k n ++ (z ++ v)) s) },
        t,
      );
    }

mutual
  -- where no departures are listed, the octets are DER
  pub AreDer-none_listed :
      (u o : ℕ) (x : List ℕ) (found : List Departure) → Lists u o x found → u ≡ 0 → length x < 2 ^ 64 → found ≡ [] →
      AreDer x
  AreDer-none_listed u o x found (none_left z e f) zero small none =
      ([], subst (λ z. AreDerEncodings z []) (sym e) no_encodings)
  AreDer-none_listed u o x found
      (encoding_listed {first = first} {rest = rest} {inside = inside} {later = later} n r i ls f)
      zero small none =
      let own = own_departures o r in
      let all : own ++ (inside ++ later) ≡ [] = sym f ∙ none in
      let more = nil_from_append-second own (inside ++ later) all in
      let a = IsAlone-no_departures o first n.encoding.identifier n.encoding.len n.class n.constructed n.tag n.contents
      r n.encoding.whole (nil_from_append-first own (inside ++ later) all) in
      let size : length x ≡ length first + length rest = ap length n.whole ∙ length-append first rest in
      let part : length first ≡ length n.encoding.identifier + (length n.encoding.len + length n.contents) =
      omega (
        arith,
        ap length n.encoding.whole,
        length-append n.encoding.identifier (n.encoding.len ++ n.contents),
        length-append n.encoding.len n.contents,
      ) in
      let (items, ds) = AreDer-none_listed (unended_behind u n.constructed n.encoding.len) (o + length first) rest later
      ls (unended_behind-definite u n.constructed n.encoding.len a.definite ∙ zero) (omega (arith, small, size))
      (nil_from_append-second inside later more) in
      let d : IsDerEncoding first = IsDerEncoding-whole first n.class n.constructed n.tag n.contents (record {
        alone = a.alone;
        items = AreDer-none_inside o (o + n.header) (is_looked_into n.constructed n.encoding.len) n.contents inside i
            n.constructed
            (is_looked_into-definite n.constructed n.encoding.len a.definite) (omega (arith, small, size, part))
            (nil_from_append-first inside later more);
      }) in
      (first ∷ items, more_encodings n.whole d ds)
  AreDer-none_listed u o x found (end_listed more e ls) zero small none = absurd (omega (arith, more, zero))

  -- where no departures are listed inside a constructed encoding of the definite form, its contents octets are DER
  AreDer-none_inside :
      (o s : ℕ) (b : Bool) (v : List ℕ) (found : List Departure) → ListsInside o s b v found → (k : Bool) → b ≡ k →
      length v < 2 ^ 64 → found ≡ [] → k ≡ true → AreDer v
  AreDer-none_inside o s b v found (nothing_inside f z) k same small none t = absurd cc
  AreDer-none_inside o s b v found (encodings_inside t ls) k same small none t' =
      AreDer-none_listed 0 s v found ls refl small none
  AreDer-none_inside o s b v found (no_encodings_inside t never e) k same small none t' = absurd cc
