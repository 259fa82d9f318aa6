-- Octets have at most one list of departures or one header at fault, and not both, for `laws::law_departures`.
use Rattle.std.proofs.Common.{◌≡◌, ℕ, ◌+◌, ◌<◌, ◌^◌, Bool, true, false, List, [], ◌∷◌, ◌++◌, inl, inr, length, refl, sym, ap, ◌∙◌, subst, arith, length-append}
use Rattle.std.specs.Prelude.{MatchBool, Option, Some}
use Rattle.asn1_headers.specs.Fault.{DecodeFault}
use Rattle.asn1_headers.specs.Header.{shortest_identifier, shortest_length}
use Rattle.asn1_headers.specs.HeaderFault.{HeaderFault}
use Rattle.asn1_headers.specs.declared.header.ASN1Class.{ASN1Class}
use Rattle.asn1_headers.specs.declared.header.ASN1Class.TheVariants.{Universal, Application, ContextSpecific, Private}
use Rattle.asn1_headers.proofs.Prefixes.{Encoding-not_empty, Encoding-same_parts, Encoding-unique}
use Rattle.asn1_blocks.proofs.Faults.{HeaderFault-not_encoding}
use Rattle.asn1_blocks.proofs.FaultsAlone.{HeaderFault-unique}
use Rattle.asn1_der.specs.Der.{IsDer, IsRightAlone}
use Rattle.asn1_der.specs.Departures.{AreEncodings, Found, HeaderFaultBehind, IsNext, LengthFound, Lists, ListsInside, NoEncodingsFault, OwnRules, TypeFound, at_front, behind, behind_end_of_contents, broken, encoding_listed, encodings_inside, end_listed, end_of_contents, is_looked_into, kept, listed, next, no_encodings_inside, no_more, none_left, nothing_inside, own_departures, unended_at_end, unended_behind}
use Rattle.asn1_headers.specs.Indefinite.{is_indefinite}
use Rattle.asn1_der.specs.Rules.{identifier_rule, type_rule}
use Rattle.asn1_der.specs.declared.rule.Departure.{Departure}
use Rattle.asn1_der.specs.declared.rule.Rule.{Rule}
use Rattle.asn1_der.specs.declared.rule.Rule.TheVariants.{IndefiniteLength, LongLength}
use Rattle.asn1_der.proofs.Fronts.{AreEncodings-nil, AreEncodings-behind_end, AreEncodings-behind_next, AreDerEncodings-are_encodings, Encoding-end_of_contents, Encoding-is_end_of_contents}

-- whether a rule is found to be broken has one answer
Found-unique : (Asked : Type 0) (rule : Rule) (f g : Option Rule) → Found Asked rule f → Found Asked rule g → f ≡ g
Found-unique Asked rule f g (kept a) (kept b) = refl
Found-unique Asked rule f g (kept a) (broken b) = absurd (b a)
Found-unique Asked rule f g (broken a) (kept b) = absurd (a b)
Found-unique Asked rule f g (broken a) (broken b) = refl

-- the rule that length octets are found to break has one answer
LengthFound-unique : (len : List ℕ) (n : ℕ) (f g : Option Rule) → LengthFound len n f → LengthFound len n g → f ≡ g
LengthFound-unique len n f g p q = by_form (is_indefinite len) p q
  where
    -- two rules found for length octets are equal, whether the octets are of the indefinite form or not
    by_form :
        (b : Bool) →
        MatchBool b (f ≡ Some IndefiniteLength) (Found (len ≡ shortest_length n) LongLength f) →
        MatchBool b (g ≡ Some IndefiniteLength) (Found (len ≡ shortest_length n) LongLength g) → f ≡ g
    by_form true p q = p ∙ sym q
    by_form false p q = Found-unique (len ≡ shortest_length n) LongLength f g p q

-- the rule that the tag, the form or the contents octets are found to break has one answer
TypeFound-unique :
    (b : Bool) (c : ASN1Class) (k : Bool) (n : ℕ) (v : List ℕ) (f g : Option Rule) → TypeFound b c k n v f →
    TypeFound b c k n v g → f ≡ g
TypeFound-unique true Universal k n v f g p q = p ∙ sym q
TypeFound-unique false Universal k n v f g p q = Found-unique (IsRightAlone Universal k n v) (type_rule k n v) f g p q
TypeFound-unique b Application k n v f g p q = p ∙ sym q
TypeFound-unique b ContextSpecific k n v f g p q = p ∙ sym q
TypeFound-unique b Private k n v f g p q = p ∙ sym q

-- what an encoding breaks by itself is listed in one way
own_departures-unique :
    (o : ℕ) (id len : List ℕ) (c : ASN1Class) (k : Bool) (n : ℕ) (v : List ℕ) (r s : OwnRules id len c k n v) →
    own_departures o r ≡ own_departures o s
own_departures-unique o id len c k n v r s =
    let i : r.of_identifier ≡ s.of_identifier =
    Found-unique (id ≡ shortest_identifier c k n) (identifier_rule n) r.of_identifier s.of_identifier r.identifier_found
    s.identifier_found in
    let l : r.of_length ≡ s.of_length =
    LengthFound-unique len (length v) r.of_length s.of_length r.length_found s.length_found in
    let t : r.of_type ≡ s.of_type =
    TypeFound-unique (is_indefinite len) c k n v r.of_type s.of_type r.type_found s.type_found in
    ap (λ z. listed o z ++ (listed o r.of_length ++ listed o r.of_type)) i
    ∙ (ap (λ z. listed o s.of_identifier ++ (listed o z ++ listed o r.of_type)) l
    ∙ ap (λ z. listed o s.of_identifier ++ (listed o s.of_length ++ listed o z)) t)

-- what is listed of an encoding in front, and of what is behind it
record ListsFrom (u o : ℕ) (id len : List ℕ) (c : ASN1Class) (k : Bool) (n : ℕ) (v : List ℕ) (h size : ℕ)
    (rest : List ℕ) (found : List Departure)
    : Type 0 where
  own : OwnRules id len c k n v
  inside : List Departure
  later : List Departure
  inside_is : ListsInside o (o + h) (is_looked_into k len) v inside
  later_is : Lists (unended_behind u k len) (o + size) rest later
  all : found ≡ own_departures o own ++ (inside ++ later)

module _ (u o : ℕ) (found : List Departure) where
  -- what is listed from an encoding on is also what is listed with equal fields of its header
  ListsFrom-same_fields :
      (id id' len len' : List ℕ) (c c' : ASN1Class) (k k' : Bool) (n n' : ℕ) (v v' : List ℕ) (h h' size size' : ℕ)
      (rest rest' : List ℕ) →
      id ≡ id' → len ≡ len' → c ≡ c' → k ≡ k' → n ≡ n' → v ≡ v' → h ≡ h' → size ≡ size' → rest ≡ rest' →
      ListsFrom u o id' len' c' k' n' v' h' size' rest' found → ListsFrom u o id len c k n v h size rest found
  ListsFrom-same_fields id id' len len' c c' k k' n n' v v' h h' size size' rest rest' ei el ec ek en ev eh es er l =
      subst (λ z. ListsFrom u o z len c k n v h size rest found) (sym ei)
      (subst (λ z. ListsFrom u o id' z c k n v h size rest found) (sym el)
      (subst (λ z. ListsFrom u o id' len' z k n v h size rest found) (sym ec)
      (subst (λ z. ListsFrom u o id' len' c' z n v h size rest found) (sym ek)
      (subst (λ z. ListsFrom u o id' len' c' k' z v h size rest found) (sym en)
      (subst (λ z. ListsFrom u o id' len' c' k' n' z h size rest found) (sym ev)
      (subst (λ z. ListsFrom u o id' len' c' k' n' v' z size rest found) (sym eh)
      (subst (λ z. ListsFrom u o id' len' c' k' n' v' h' z rest found) (sym es)
      (subst (λ z. ListsFrom u o id' len' c' k' n' v' h' size' z found) (sym er) l))))))))

  -- where an encoding stands in front, it is what is listed first
  Lists-next :
      (x first rest : List ℕ) (m : IsNext u x first rest) → Lists u o x found →
      ListsFrom u o m.encoding.identifier m.encoding.len m.class m.constructed m.tag m.contents m.header (length first)
      rest found
  Lists-next x first rest m (none_left z e f) =
      absurd (omega (
        arith,
        Encoding-not_empty first m.class m.constructed m.tag m.contents m.header m.encoding,
        ap length m.whole,
        ap length e,
        length-append first rest,
      ))
  Lists-next x first rest m (encoding_listed {first = f} {rest = q} {inside = inside} {later = later} n r i ls all) =
      let e : first ++ rest ≡ f ++ q = sym m.whole ∙ n.whole in
      let same = Encoding-unique first f m.class n.class m.constructed n.constructed m.tag n.tag m.contents n.contents
      m.header n.header rest q m.encoding n.encoding e in
      let (id, len) = Encoding-same_parts first f m.class n.class m.constructed n.constructed m.tag n.tag m.contents
      n.contents m.header n.header rest q m.encoding n.encoding e in
      ListsFrom-same_fields m.encoding.identifier n.encoding.identifier m.encoding.len n.encoding.len m.class n.class
      m.constructed n.constructed m.tag n.tag m.contents n.contents m.header n.header (length first) (length f) rest q
      id len same.class same.constructed same.tag same.contents same.header (ap length same.octets) same.rest
      (record { own = r; inside = inside; later = later; inside_is = i; later_is = ls; all = all })
  Lists-next x first rest m (end_listed more e ls) =
      absurd (m.no_end (omega (arith, more))
      (Encoding-is_end_of_contents x first rest _ m.class m.constructed m.tag m.contents m.header m.encoding m.whole e))

  -- where end-of-contents octets close an encoding, the departures listed are those behind these octets
  Lists-end_of_contents : (x rest : List ℕ) (fewer : ℕ) → u ≡ fewer + 1 → x ≡ 0 ∷ 0 ∷ rest → Lists u o x found →
      Lists fewer (o + 2) rest found
  Lists-end_of_contents x rest fewer more e (none_left z e' f) = absurd (omega (arith, more, z))
  Lists-end_of_contents x rest fewer more e (encoding_listed {first = f} {rest = q} n r i ls all) =
      absurd (n.no_end (omega (arith, more))
      (Encoding-is_end_of_contents x f q rest n.class n.constructed n.tag n.contents n.header n.encoding n.whole e))
  Lists-end_of_contents x rest fewer more e (end_listed {fewer = g} {rest = q} more' e' ls) =
      let same : q ≡ rest = cc in
      let count : g ≡ fewer = omega (arith, more, more') in
      subst (λ z. Lists z (o + 2) rest found) count (subst (λ z. Lists g (o + 2) z found) same ls)

  -- no departures are listed of no octets
  Lists-nil : (x : List ℕ) → u ≡ 0 → x ≡ [] → Lists u o x found → found ≡ []
  Lists-nil x z e (none_left z' e' f) = f
  Lists-nil x z e (encoding_listed {first = f} {rest = q} n r i ls all) =
      absurd (omega (
        arith,
        Encoding-not_empty f n.class n.constructed n.tag n.contents n.header n.encoding,
        ap length n.whole,
        ap length e,
        length-append f q,
      ))
  Lists-nil x z e (end_listed more e' ls) = absurd (omega (arith, more, z))

-- octets that have a list of departures are encodings one after another
pub Lists-are_encodings : (u o : ℕ) (x : List ℕ) (found : List Departure) → Lists u o x found → AreEncodings u x
Lists-are_encodings u o x found (none_left z e f) = no_more z e
Lists-are_encodings u o x found (encoding_listed {first = first} {rest = rest} {later = later} n r i ls all) =
    next n (Lists-are_encodings (unended_behind u n.constructed n.encoding.len) (o + length first) rest later ls)
Lists-are_encodings u o x found (end_listed {fewer = fewer} {rest = rest} more e ls) =
    end_of_contents more e (Lists-are_encodings fewer (o + 2) rest found ls)

mutual
  -- octets have at most one list of departures
  pub Lists-unique : (u o : ℕ) (x : List ℕ) (xs ys : List Departure) → Lists u o x xs → Lists u o x ys → xs ≡ ys
  Lists-unique u o x xs ys (none_left z e f) l = f ∙ sym (Lists-nil u o ys x z e l)
  Lists-unique u o x xs ys
      (encoding_listed {first = first} {rest = rest} {inside = inside} {later = later} n r i ls all)
      l =
      let m = Lists-next u o ys x first rest n l in
      let own = own_departures-unique o n.encoding.identifier n.encoding.len n.class n.constructed n.tag n.contents r
      m.own in
      let within : inside ≡ m.inside =
      ListsInside-unique o (o + n.header) (is_looked_into n.constructed n.encoding.len) n.contents inside m.inside i
      m.inside_is in
      let behind : later ≡ m.later =
      Lists-unique (unended_behind u n.constructed n.encoding.len) (o + length first) rest later m.later ls
      m.later_is in
      all ∙ (ap (λ z. z ++ (inside ++ later)) own
      ∙ (ap (λ z. own_departures o m.own ++ (z ++ later)) within
      ∙ (ap (λ z. own_departures o m.own ++ (m.inside ++ z)) behind ∙ sym m.all)))
  Lists-unique u o x xs ys (end_listed {fewer = fewer} {rest = rest} more e ls) l =
      Lists-unique fewer (o + 2) rest xs ys ls (Lists-end_of_contents u o ys x rest fewer more e l)

  -- an encoding has at most one list of departures inside it
  ListsInside-unique :
      (o s : ℕ) (b : Bool) (v : List ℕ) (xs ys : List Departure) → ListsInside o s b v xs → ListsInside o s b v ys →
      xs ≡ ys
  ListsInside-unique o s b v xs ys (nothing_inside f e) (nothing_inside f' e') = e ∙ sym e'
  ListsInside-unique o s b v xs ys (nothing_inside f e) (encodings_inside t ls) = absurd cc
  ListsInside-unique o s b v xs ys (nothing_inside f e) (no_encodings_inside t never e') = absurd cc
  ListsInside-unique o s b v xs ys (encodings_inside t ls) (nothing_inside f e) = absurd cc
  ListsInside-unique o s b v xs ys (encodings_inside t ls) (encodings_inside t' ls') = Lists-unique 0 s v xs ys ls ls'
  ListsInside-unique o s b v xs ys (encodings_inside t ls) (no_encodings_inside t' never e) =
      absurd (never (Lists-are_encodings 0 s v xs ls))
  ListsInside-unique o s b v xs ys (no_encodings_inside t never e) (nothing_inside f e') = absurd cc
  ListsInside-unique o s b v xs ys (no_encodings_inside t never e) (encodings_inside t' ls) =
      absurd (never (Lists-are_encodings 0 s v ys ls))
  ListsInside-unique o s b v xs ys (no_encodings_inside t never e) (no_encodings_inside t' never' e') = e ∙ sym e'

-- the header in front of encodings one after another is not at fault
AreEncodings-no_front_fault :
    (u o : ℕ) (x : List ℕ) (e : DecodeFault) → o + length x < 2 ^ 64 → 0 < length x → HeaderFault o x e →
    AreEncodings u x → ⊥
AreEncodings-no_front_fault u o x e small some f (no_more z none) = omega (arith, some, ap length none)
AreEncodings-no_front_fault u o x e small some f (next {first = first} {rest = rest} n a) =
    HeaderFault-not_encoding o x first rest e n.class n.constructed n.tag n.contents n.header f small n.whole n.encoding
AreEncodings-no_front_fault u o x e small some f (end_of_contents {rest = rest} more w a) =
    HeaderFault-not_encoding o x (0 ∷ 0 ∷ []) rest e Universal false 0 [] 2 f small w Encoding-end_of_contents

-- in encodings one after another no header is at fault, and no end-of-contents octets are missing
pub AreEncodings-no_fault_behind :
    (u o place : ℕ) (x : List ℕ) (e : DecodeFault) → o + length x < 2 ^ 64 → AreEncodings u x →
    HeaderFaultBehind u o x place e → ⊥
AreEncodings-no_fault_behind u o place x e small a (at_front some f) =
    AreEncodings-no_front_fault u o x e small some f a
AreEncodings-no_fault_behind u o place x e small a (unended_at_end some none) =
    omega (arith, some, AreEncodings-nil u x none a)
AreEncodings-no_fault_behind u o place x e small a (behind {first = first} {rest = rest} n f) =
    AreEncodings-no_fault_behind (unended_behind u n.constructed n.encoding.len) (o + length first) place rest e
    (omega (arith, small, ap length n.whole, length-append first rest)) (AreEncodings-behind_next u x first rest n a) f
AreEncodings-no_fault_behind u o place x e small a (behind_end_of_contents {fewer = fewer} {rest = rest} more w f) =
    AreEncodings-no_fault_behind fewer (o + 2) place rest e (omega (arith, small, ap length w))
    (AreEncodings-behind_end u fewer x rest more w a) f

-- encodings one after another, one or more, have no fault
pub AreEncodings-no_fault : (x : List ℕ) (place : ℕ) (e : DecodeFault) → length x < 2 ^ 64 → 0 < length x →
    AreEncodings 0 x →
    NoEncodingsFault x place e → ⊥
AreEncodings-no_fault x place e small some a (inl f) = omega (arith, some, ap length f.0)
AreEncodings-no_fault x place e small some a (inr f) =
    AreEncodings-no_fault_behind 0 0 place x e (omega (arith, small)) a f

-- in octets that are DER no header is at fault
pub IsDer-no_fault : (x : List ℕ) (place : ℕ) (e : DecodeFault) → length x < 2 ^ 64 → IsDer x →
    NoEncodingsFault x place e → ⊥
IsDer-no_fault x place e small d f =
    AreEncodings-no_fault x place e small d.some (AreDerEncodings-are_encodings x d.items small d.encodings) f

-- a fault behind one encoding in front is behind any other in front, since the two are the same
HeaderFaultBehind-same_next :
    (u o q : ℕ) (x first rest : List ℕ) (e : DecodeFault) (n : IsNext u x first rest) (f r : List ℕ)
    (m : IsNext u x f r) →
    HeaderFaultBehind (unended_behind u m.constructed m.encoding.len) (o + length f) r q e →
    HeaderFaultBehind (unended_behind u n.constructed n.encoding.len) (o + length first) rest q e
HeaderFaultBehind-same_next u o q x first rest e n f r m h =
    let w : first ++ rest ≡ f ++ r = sym n.whole ∙ m.whole in
    let same = Encoding-unique first f n.class m.class n.constructed m.constructed n.tag m.tag n.contents m.contents
    n.header m.header rest r n.encoding m.encoding w in
    let (id, len) = Encoding-same_parts first f n.class m.class n.constructed m.constructed n.tag m.tag n.contents
    m.contents n.header m.header rest r n.encoding m.encoding w in
    subst (λ z. HeaderFaultBehind (unended_behind u n.constructed n.encoding.len) (o + length z) rest q e)
    (sym same.octets)
    (subst (λ z. HeaderFaultBehind (unended_behind u n.constructed n.encoding.len) (o + length f) z q e) (sym same.rest)
    (subst (λ z. HeaderFaultBehind (unended_behind u n.constructed z) (o + length f) r q e) (sym len)
    (subst (λ z. HeaderFaultBehind (unended_behind u z m.encoding.len) (o + length f) r q e) (sym same.constructed) h)))

-- no encoding stands in front where there are no octets
IsNext-not_nil : (u : ℕ) (x first rest : List ℕ) → IsNext u x first rest → x ≡ [] → ⊥
IsNext-not_nil u x first rest n none =
    omega (
      arith,
      Encoding-not_empty first n.class n.constructed n.tag n.contents n.header n.encoding,
      ap length n.whole,
      ap length none,
      length-append first rest,
    )

-- where the header in front is at fault, no encoding stands in front
HeaderFault-not_next : (u o : ℕ) (x first rest : List ℕ) (e : DecodeFault) → o + length x < 2 ^ 64 → HeaderFault o x e →
    IsNext u x first rest → ⊥
HeaderFault-not_next u o x first rest e small f n =
    HeaderFault-not_encoding o x first rest e n.class n.constructed n.tag n.contents n.header f small n.whole n.encoding

-- octets whose header in front is at fault do not begin with end-of-contents octets
HeaderFault-not_end_of_contents : (o : ℕ) (x rest : List ℕ) (e : DecodeFault) → o + length x < 2 ^ 64 →
    HeaderFault o x e →
    x ≡ 0 ∷ 0 ∷ rest → ⊥
HeaderFault-not_end_of_contents o x rest e small f w =
    HeaderFault-not_encoding o x (0 ∷ 0 ∷ []) rest e Universal false 0 [] 2 f small w Encoding-end_of_contents

-- while an encoding is open, octets with an encoding in front do not begin with end-of-contents octets
IsNext-not_end_of_contents : (u fewer : ℕ) (x first rest later : List ℕ) → IsNext u x first rest → u ≡ fewer + 1 →
    x ≡ 0 ∷ 0 ∷ later →
    ⊥
IsNext-not_end_of_contents u fewer x first rest later n more w =
    n.no_end (omega (arith, more))
    (Encoding-is_end_of_contents x first rest later n.class n.constructed n.tag n.contents n.header n.encoding n.whole
    w)

-- at most one header of encodings one after another is at fault, with one fault
HeaderFaultBehind-unique :
    (u o p q : ℕ) (x : List ℕ) (e d : DecodeFault) → o + length x < 2 ^ 64 → HeaderFaultBehind u o x p e →
    HeaderFaultBehind u o x q d →
    (p ≡ q) × (e ≡ d)
HeaderFaultBehind-unique u o p q x e d small (at_front some f) (at_front more g) =
    (refl, HeaderFault-unique o x e d f g)
HeaderFaultBehind-unique u o p q x e d small (at_front some f) (unended_at_end more none) =
    absurd (omega (arith, some, ap length none))
HeaderFaultBehind-unique u o p q x e d small (at_front some f) (behind {first = first} {rest = rest} n g) =
    absurd (HeaderFault-not_next u o x first rest e small f n)
HeaderFaultBehind-unique u o p q x e d small (at_front some f) (behind_end_of_contents {rest = rest} more w g) =
    absurd (HeaderFault-not_end_of_contents o x rest e small f w)
HeaderFaultBehind-unique u o p q x e d small (unended_at_end some none) (at_front more g) =
    absurd (omega (arith, more, ap length none))
HeaderFaultBehind-unique u o p q x e d small (unended_at_end some none) (unended_at_end more none') = (refl, refl)
HeaderFaultBehind-unique u o p q x e d small (unended_at_end some none) (behind {first = first} {rest = rest} n g) =
    absurd (IsNext-not_nil u x first rest n none)
HeaderFaultBehind-unique u o p q x e d small (unended_at_end some none) (behind_end_of_contents more w g) =
    absurd (omega (arith, ap length w, ap length none))
HeaderFaultBehind-unique u o p q x e d small (behind {first = first} {rest = rest} n f) (at_front more g) =
    absurd (HeaderFault-not_next u o x first rest d small g n)
HeaderFaultBehind-unique u o p q x e d small (behind {first = first} {rest = rest} n f) (unended_at_end some none) =
    absurd (IsNext-not_nil u x first rest n none)
HeaderFaultBehind-unique u o p q x e d small (behind {first = first} {rest = rest} n f)
    (behind {first = y} {rest = r} m g) =
    HeaderFaultBehind-unique (unended_behind u n.constructed n.encoding.len) (o + length first) p q rest e d
    (omega (arith, small, ap length n.whole, length-append first rest)) f
    (HeaderFaultBehind-same_next u o q x first rest d n y r m g)
HeaderFaultBehind-unique u o p q x e d small (behind {first = first} {rest = rest} n f)
    (behind_end_of_contents {fewer = fewer} {rest = r} more w g) =
    absurd (IsNext-not_end_of_contents u fewer x first rest r n more w)
HeaderFaultBehind-unique u o p q x e d small (behind_end_of_contents {rest = rest} more w f) (at_front some g) =
    absurd (HeaderFault-not_end_of_contents o x rest d small g w)
HeaderFaultBehind-unique u o p q x e d small (behind_end_of_contents more w f) (unended_at_end some none) =
    absurd (omega (arith, ap length w, ap length none))
HeaderFaultBehind-unique u o p q x e d small (behind_end_of_contents {fewer = fewer} {rest = rest} more w f)
    (behind {first = y} {rest = r} m g) =
    absurd (IsNext-not_end_of_contents u fewer x y r rest m more w)
HeaderFaultBehind-unique u o p q x e d small (behind_end_of_contents {fewer = a} {rest = rest} more w f)
    (behind_end_of_contents {fewer = b} {rest = r} more' w' g) =
    let same : r ≡ rest = cc in
    let count : b ≡ a = omega (arith, more, more') in
    HeaderFaultBehind-unique a (o + 2) p q rest e d (omega (arith, small, ap length w)) f
    (subst (λ z. HeaderFaultBehind z (o + 2) rest q d) count (subst (λ z. HeaderFaultBehind b (o + 2) z q d) same g))

-- where there are no octets and no encoding is open, no header is at fault
HeaderFaultBehind-not_nil : {x : List ℕ} {p : ℕ} {e : DecodeFault} → x ≡ [] → HeaderFaultBehind 0 0 x p e → ⊥
HeaderFaultBehind-not_nil none (at_front some f) = omega (arith, some, ap length none)
HeaderFaultBehind-not_nil none (unended_at_end some e) = omega (arith, some)
HeaderFaultBehind-not_nil {x = x} none (behind {first = first} {rest = rest} n f) = IsNext-not_nil 0 x first rest n none
HeaderFaultBehind-not_nil none (behind_end_of_contents more w f) = omega (arith, ap length w, ap length none)

-- at most one fault, at one offset, makes octets no encodings one after another
pub NoEncodingsFault-unique :
    (x : List ℕ) (p q : ℕ) (e d : DecodeFault) → length x < 2 ^ 64 → NoEncodingsFault x p e → NoEncodingsFault x q d →
    (p ≡ q) × (e ≡ d)
NoEncodingsFault-unique x p q e d small (inl f) (inl g) = (f.1 ∙ sym g.1, f.2 ∙ sym g.2)
NoEncodingsFault-unique x p q e d small (inl f) (inr g) = absurd (HeaderFaultBehind-not_nil f.0 g)
NoEncodingsFault-unique x p q e d small (inr f) (inl g) = absurd (HeaderFaultBehind-not_nil g.0 f)
NoEncodingsFault-unique x p q e d small (inr f) (inr g) =
    HeaderFaultBehind-unique 0 0 p q x e d (omega (arith, small)) f g
