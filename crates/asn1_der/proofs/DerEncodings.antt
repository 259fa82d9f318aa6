-- Encodings of DER by their headers, for this crate and for `asn1_laws`.
use Rattle.std.proofs.Common.{◌≡◌, ◌≢◌, ℕ, ◌+◌, ◌<◌, ◌^◌, Bool, true, false, List, [], ◌++◌, length, refl, sym, ap, ◌∙◌, subst, arith, length-append}
use Rattle.asn1_headers.specs.Fault.{DecodeFault}
use Rattle.asn1_headers.specs.Header.{Encoding, shortest_identifier, shortest_length}
use Rattle.asn1_headers.specs.HeaderFault.{HeaderFault}
use Rattle.asn1_blocks.proofs.Faults.{HeaderFault-not_encoding}
use Rattle.asn1_headers.specs.declared.header.ASN1Class.{ASN1Class}
use Rattle.asn1_headers.specs.declared.header.ASN1Class.TheVariants.{Universal, Application, ContextSpecific, Private}
use Rattle.asn1_headers.specs.Indefinite.{is_indefinite}
use Rattle.asn1_headers.proofs.Prefixes.{Encoding-unique, Encoding-not_empty}
use Rattle.asn1_headers.proofs.Shortest.{IsIdentifier-shortest, IsLength-shortest}
use Rattle.asn1_der.specs.Der.{AreDerEncodings, AreOfType, IsDerEncoding, IsRightAlone, IsShortest, more_encodings, no_encodings, of_constructed_not_universal, of_constructed_type, of_primitive_not_universal, of_primitive_type}
use Rattle.asn1_der.specs.Steps.{IsWhole, AreDer}
use Rattle.asn1_der.proofs.Shortest.{HasShortest-encoding, is_indefinite-shortest_length}

-- octets in the shortest form are an encoding
Encoding-shortest : (x : List ℕ) (c : ASN1Class) (k : Bool) (n : ℕ) (v : List ℕ) → length x < 2 ^ 64
    → IsShortest x c k n v → (h : ℕ) × Encoding x c k n v h
Encoding-shortest x c k n v small s =
    let i = shortest_identifier c k n in
    let l = shortest_length (length v) in
    let size : length v < 2 ^ 64 =
    omega (arith, small, ap length s.whole, length-append i (l ++ v), length-append l v) in (
      length i + length l,
      record {
        identifier = i;
        len = l;
        identifier_octets = IsIdentifier-shortest c k n;
        length_octets = IsLength-shortest (length v) size;
        whole = s.whole;
        size = refl;
      },
    )

-- octets that are in the shortest form, with some fields
pub record HasShortestForm (x : List ℕ) : Type 0 where
  pub c : ASN1Class
  pub k : Bool
  pub n : ℕ
  pub v : List ℕ
  pub shortest : IsShortest x c k n v

-- an encoding of DER is in the shortest form, with some fields
HasShortestForm-der : (x : List ℕ) → IsDerEncoding x → HasShortestForm x
HasShortestForm-der x (of_primitive_type {tag = n} s r t h) =
    record { c = Universal; k = false; n = n; v = _; shortest = s }
HasShortestForm-der x (of_constructed_type {tag = n} s t items d o) =
    record { c = Universal; k = true; n = n; v = _; shortest = s }
HasShortestForm-der x (of_constructed_not_universal {class = c} {tag = n} other s items d) =
    record { c = c; k = true; n = n; v = _; shortest = s }
HasShortestForm-der x (of_primitive_not_universal {class = c} {tag = n} other s) =
    record { c = c; k = false; n = n; v = _; shortest = s }

-- an encoding of DER is an encoding
pub Encoding-der : (x : List ℕ) → length x < 2 ^ 64 → IsDerEncoding x →
    (c : ASN1Class) × (k : Bool) × (n : ℕ) × (v : List ℕ) × (h : ℕ) × Encoding x c k n v h
Encoding-der x small d =
    let s = HasShortestForm-der x d in
    let e = Encoding-shortest x s.c s.k s.n s.v small s.shortest in
    (s.c, s.k, s.n, s.v, e.0, e.1)

-- octets have at most one list of encodings of DER
pub AreDerEncodings-unique : (x y : List ℕ) (is js : List (List ℕ)) → length x < 2 ^ 64 → x ≡ y → AreDerEncodings x is
    → AreDerEncodings y js → is ≡ js
AreDerEncodings-unique x y is js small e no_encodings no_encodings = refl
AreDerEncodings-unique x y is js small e no_encodings (more_encodings {first = f} {rest = r} w d ds) =
    let zero : length (f ++ r) ≡ 0 = ap length (sym w) ∙ ap length (sym e) in
    let z : length f ≡ 0 = omega (arith, zero, length-append f r) in
    let (c, k, n, v, h, p) = Encoding-der f (omega (arith, z)) d in
    absurd (omega (arith, z, Encoding-not_empty f c k n v h p))
AreDerEncodings-unique x y is js small e (more_encodings {first = f} {rest = r} w d ds) no_encodings =
    let zero : length (f ++ r) ≡ 0 = ap length (sym w) ∙ ap length e in
    let z : length f ≡ 0 = omega (arith, zero, length-append f r) in
    let (c, k, n, v, h, p) = Encoding-der f (omega (arith, z)) d in
    absurd (omega (arith, z, Encoding-not_empty f c k n v h p))
AreDerEncodings-unique x y is js small e (more_encodings {first = f} {rest = r} {items = fs} w d ds)
    (more_encodings {first = g} {rest = q} {items = gs} u b bs) =
    let long : length x ≡ length f + length r = ap length w ∙ length-append f r in
    let long' : length x ≡ length g + length q = ap length e ∙ (ap length u ∙ length-append g q) in
    let (c, k, n, v, h, p) = Encoding-der f (omega (arith, long, small)) d in
    let (c', k', n', v', h', p') = Encoding-der g (omega (arith, long', small)) b in
    let same = Encoding-unique f g c c' k k' n n' v v' h h' r q p p' (sym w ∙ (e ∙ u)) in
    let first : f ≡ g = same.octets in
    let more : fs ≡ gs = AreDerEncodings-unique r q fs gs (omega (arith, long, small)) same.rest ds bs in
    cc

-- of another class than Universal no form, tag number or contents octets are asked for
IsRightAlone-not_universal : (c : ASN1Class) (k : Bool) (n : ℕ) (v : List ℕ) → c ≢ Universal → IsRightAlone c k n v
IsRightAlone-not_universal Universal k n v other = absurd (other refl)
IsRightAlone-not_universal Application k n v other = tt
IsRightAlone-not_universal ContextSpecific k n v other = tt
IsRightAlone-not_universal Private k n v other = tt

-- what is asked of an encoding of DER holds with equal fields too
IsWhole-same_fields :
    (x : List ℕ) (c c' : ASN1Class) (k k' : Bool) (n n' : ℕ) (v v' : List ℕ) → c ≡ c' → k ≡ k' → n ≡ n' → v ≡ v' →
    IsWhole x c' k' n' v' → IsWhole x c k n v
IsWhole-same_fields x c c' k k' n n' v v' ec ek en ev w =
    subst (λ z. IsWhole x z k n v) (sym ec)
    (subst (λ z. IsWhole x c' z n v) (sym ek)
    (subst (λ z. IsWhole x c' k' z v) (sym en)
    (subst (λ z. IsWhole x c' k' n' z) (sym ev) w)))

-- an encoding of DER of fewer than 2^64 octets meets `IsWhole` with some fields
IsWhole-some_fields : (x : List ℕ) → length x < 2 ^ 64 → IsDerEncoding x →
    (c : ASN1Class) × (k : Bool) × (n : ℕ) × (v : List ℕ) × IsWhole x c k n v
IsWhole-some_fields x small (of_primitive_type {contents = v} {tag = n} s r t h) =
    (Universal, false, n, v, record { alone = (s, (r, t, h)); items = λ e. absurd cc })
IsWhole-some_fields x small (of_constructed_type {contents = v} {tag = n} s t items d o) =
    let i = shortest_identifier Universal true n in
    let l = shortest_length (length v) in
    let size : length v < 2 ^ 64 =
    omega (arith, small, ap length s.whole, length-append i (l ++ v), length-append l v) in (
      Universal,
      true,
      n,
      v,
      record {
        alone =
            (s, (t, λ others ds. subst (AreOfType n v) (AreDerEncodings-unique v v items others size refl d ds) o));
        items = λ e. (items, d);
      },
    )
IsWhole-some_fields x small (of_constructed_not_universal {contents = v} {class = c} {tag = n} other s items d) =
    (c, true, n, v, record { alone = (s, IsRightAlone-not_universal c true n v other); items = λ e. (items, d) })
IsWhole-some_fields x small (of_primitive_not_universal {contents = v} {class = c} {tag = n} other s) =
    (c, false, n, v, record { alone = (s, IsRightAlone-not_universal c false n v other); items = λ e. absurd cc })

-- an encoding of DER meets `IsWhole` with the fields of its header
pub IsWhole-der :
    (x : List ℕ) (c : ASN1Class) (k : Bool) (n : ℕ) (v : List ℕ) (h : ℕ) → length x < 2 ^ 64 → Encoding x c k n v h →
    IsDerEncoding x → IsWhole x c k n v
IsWhole-der x c k n v h small e d =
    let (c', k', n', v', w) = IsWhole-some_fields x small d in
    let (h', e') = Encoding-shortest x c' k' n' v' small w.alone.0 in
    let same = Encoding-unique x x c c' k k' n n' v v' h h' [] [] e e' refl in
    IsWhole-same_fields x c c' k k' n n' v v' same.class same.constructed same.tag same.contents w

-- octets with the properties that an encoding of DER has are an encoding of DER
pub IsDerEncoding-whole : (x : List ℕ) (c : ASN1Class) (k : Bool) (n : ℕ) (v : List ℕ) → IsWhole x c k n v
    → IsDerEncoding x
IsDerEncoding-whole x Universal false n v w =
    let (shortest, (right, kind, contents)) = w.alone in of_primitive_type shortest right kind contents
IsDerEncoding-whole x Universal true n v w =
    let (items, d) = w.items refl in
    let (shortest, (group, of_type)) = w.alone in of_constructed_type shortest group items d (of_type items d)
IsDerEncoding-whole x Application true n v w = let (items, d) =
    w.items refl in of_constructed_not_universal (λ e. cc) w.alone.0 items d
IsDerEncoding-whole x ContextSpecific true n v w = let (items, d) =
    w.items refl in of_constructed_not_universal (λ e. cc) w.alone.0 items d
IsDerEncoding-whole x Private true n v w = let (items, d) =
    w.items refl in of_constructed_not_universal (λ e. cc) w.alone.0 items d
IsDerEncoding-whole x Application false n v w = of_primitive_not_universal (λ e. cc) w.alone.0
IsDerEncoding-whole x ContextSpecific false n v w = of_primitive_not_universal (λ e. cc) w.alone.0
IsDerEncoding-whole x Private false n v w = of_primitive_not_universal (λ e. cc) w.alone.0

-- an encoding of DER is of the definite form
pub is_indefinite-der :
    (x : List ℕ) (c : ASN1Class) (k : Bool) (n : ℕ) (v : List ℕ) (h : ℕ) (e : Encoding x c k n v h) →
    length x < 2 ^ 64 → IsDerEncoding x → is_indefinite e.len ≡ false
is_indefinite-der x c k n v h e small d =
    let s = HasShortest-encoding x c k n v h e small (IsWhole-der x c k n v h small e d).alone.0 in
    ap is_indefinite s.len_is ∙ is_indefinite-shortest_length (length v)

-- the first of encodings of DER is an encoding of DER, and the rest are encodings of DER
pub record IsDerInFront (first rest : List ℕ) : Type 0 where
  pub der : IsDerEncoding first
  pub more : AreDer rest

-- where fewer than 2^64 octets are encodings of DER, an encoding in front is of DER, and the rest are encodings of DER
pub AreDer-first :
    (x first rest : List ℕ) (c : ASN1Class) (k : Bool) (n : ℕ) (v : List ℕ) (h : ℕ) → Encoding first c k n v h →
    x ≡ first ++ rest →
    length x < 2 ^ 64 → AreDer x → IsDerInFront first rest
AreDer-first x first rest c k n v h e whole small (items, no_encodings) =
    absurd (omega (arith, Encoding-not_empty first c k n v h e, ap length whole, length-append first rest))
AreDer-first x first rest c k n v h e whole small (items, more_encodings {first = f} {rest = r} {items = is} w d ds) =
    let (c', k', n', v', h', e') = Encoding-der f (omega (arith, small, ap length w, length-append f r)) d in
    let same = Encoding-unique first f c c' k k' n n' v v' h h' rest r e e' (sym whole ∙ w) in
    record {
      der = subst IsDerEncoding (sym same.octets) d;
      more =
          (is, subst (λ z. AreDerEncodings z is) (sym same.rest) ds);
    }

-- no header of DER is at fault
pub AreDer-no_header_fault : (o : ℕ) (x : List ℕ) (e : DecodeFault) → o + length x < 2 ^ 64 → 0 < length x →
    HeaderFault o x e →
    AreDer x → ⊥
AreDer-no_header_fault o x e small some f (items, no_encodings) = omega (arith, some)
AreDer-no_header_fault o x e small some f (items, more_encodings {first = first} {rest = rest} w d ds) =
    let (c, k, n, v, h, F) = Encoding-der first (omega (arith, small, ap length w, length-append first rest)) d in
    HeaderFault-not_encoding o x first rest e c k n v h f small w F
