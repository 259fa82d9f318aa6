-- An encoding begins with its own header, for the functions of `encoding`, `alone` and `header_record`.
use Rattle.std.proofs.Common.{◌≡◌, ◌≤◌, ℕ, Bool, List, ◌++◌, length, drop, take, refl, sym, ap, subst, ◌∙◌, arith, length-append, append_assoc}
use Rattle.std.proofs.lemmas.List.{drop_at, length-take-le, take-append-drop, take_at}
use Rattle.asn1_headers.specs.declared.header.ASN1Class.{ASN1Class}
use Rattle.asn1_headers.specs.declared.header.ASN1Class.TheVariants.{Universal, Application, ContextSpecific, Private}
use Rattle.simple_asn1.specs.Header.{BeginsWithNo, Encoding, IsIdentifier, IsLength, IsSomeIdentifier, class_number}
use Rattle.simple_asn1.specs.Places.{IsEncoding}
use Rattle.asn1_headers.proofs.Prefixes.{IsIdentifier-unique, IsLength-unique}
use Rattle.asn1_headers.specs.Front.{BeginsWithHeader, HasNoHeader}

-- an encoding begins with a header
pub IsEncoding-has_header : (x : List ℕ) → IsEncoding x → HasNoHeader x → ⊥
IsEncoding-has_header x is none =
    let e = is.encoding in
    let v = is.contents in
    none (e.identifier ++ e.len) v
    (e.identifier, e.len, refl, (is.tag, (is.class, is.constructed, e.identifier_octets)), (length v, e.length_octets))
    (e.whole ∙ sym (append_assoc e.identifier e.len v))

-- a header at the front of an encoding is the header of the encoding, and the contents octets follow
pub Encoding-front_header : (x : List ℕ) (size m : ℕ) (c : ASN1Class) (k : Bool) (n : ℕ) → IsEncoding x →
    BeginsWithHeader x size m c k n
    → Encoding x c k n (drop size x) size × (m ≡ length (drop size x))
Encoding-front_header x size m c k n is f =
    let e = is.encoding in
    let v = is.contents in
    let w = drop size x in
    let parts : x ≡ f.identifier ++ (f.len ++ w) =
    sym (take-append-drop size x) ∙ (ap (λ z. z ++ w) f.front_is ∙ append_assoc f.identifier f.len w) in
    let same = IsIdentifier-unique e.identifier f.identifier (e.len ++ v) (f.len ++ w) is.class c is.constructed k
    is.tag n e.identifier_octets f.fields (sym e.whole ∙ parts) in
    let lens = IsLength-unique e.len f.len v w (length v) m e.length_octets f.length_octets same.rest in
    let count : m ≡ length w = sym lens.number ∙ ap length lens.rest in (
      record {
        identifier = f.identifier;
        len = f.len;
        identifier_octets = f.fields;
        length_octets = subst (IsLength f.len) count f.length_octets;
        whole = parts;
        size = omega (arith, ap length f.front_is, length-append f.identifier f.len, length-take-le size x f.within);
      },
      count,
    )

-- an encoding begins with identifier octets
pub IsEncoding-has_identifier : (x : List ℕ) → IsEncoding x → BeginsWithNo IsSomeIdentifier x → ⊥
IsEncoding-has_identifier x is none =
    let e = is.encoding in
    let i = e.identifier in
    let front : take (length i) x ≡ i =
    ap (take (length i)) e.whole ∙ take_at i (e.len ++ is.contents) (length i) refl in
    none is.tag (length i) (
      is.class,
      is.constructed,
      subst (λ z. IsIdentifier z is.class is.constructed is.tag) (sym front) e.identifier_octets,
    )

-- identifier octets at the front of an encoding are as many as the encoding's
pub length-front_identifier : (x : List ℕ) (size n : ℕ) (c : ASN1Class) (k : Bool) → (is : IsEncoding x) →
    size ≤ length x →
    IsIdentifier (take size x) c k n
    → length is.encoding.identifier ≡ size
length-front_identifier x size n c k is within found =
    let e = is.encoding in
    let v = is.contents in
    let same = IsIdentifier-unique e.identifier (take size x) (e.len ++ v) (drop size x) is.class c is.constructed k
    is.tag n e.identifier_octets found (sym e.whole ∙ sym (take-append-drop size x)) in
    ap length same.octets ∙ length-take-le size x within

-- the class with the number 0 is Universal
pub class_number-universal : (c : ASN1Class) → class_number c ≡ 0 → c ≡ Universal
class_number-universal Universal e = refl
class_number-universal Application e = absurd (omega (arith, e))
class_number-universal ContextSpecific e = absurd (omega (arith, e))
class_number-universal Private e = absurd (omega (arith, e))

-- the contents octets are what follows the header
pub drop-header : (x : List ℕ) (c : ASN1Class) (k : Bool) (n : ℕ) (v : List ℕ) (h : ℕ) → Encoding x c k n v h →
    drop h x ≡ v
drop-header x c k n v h e =
    let i = e.identifier in
    let l = e.len in
    let at : length (i ++ l) ≡ h = omega (arith, e.size, length-append i l) in
    ap (drop h) (e.whole ∙ sym (append_assoc i l v)) ∙ drop_at (i ++ l) v h at
