-- No identifier octets, length octets or encoding begin others, for all that reads headers or encodings.
use Rattle.std.proofs.Common.{◌≡◌, ℕ, zero, suc, ◌+◌, ◌<◌, Bool, true, false, List, [], ◌∷◌, ◌++◌, inl, inr, length, refl, sym, ap, ◌∙◌, subst, arith, append_assoc, length-append, drop, take}
use Rattle.std.specs.Int.Digits.{number_from_digits}
use Rattle.asn1_headers.specs.declared.header.ASN1Class.{ASN1Class}
use Rattle.asn1_headers.specs.declared.header.ASN1Class.TheVariants.{Universal, Application, ContextSpecific, Private}
use Rattle.asn1_numbers.specs.Base128.{IsBase128, IsContinued, low_bits_number}
use Rattle.asn1_headers.specs.Header.{BeginsWithNo, IsIdentifier, IsLength, IsSomeIdentifier, Encoding, class_number, constructed_bit, leading_octet}
use Rattle.std.proofs.lemmas.List.{drop_at, take-append-drop, take_at}

-- octets that begin with none that have a meaning do not begin with some that have it
pub BeginsWithNo-append : (Means : List ℕ → ℕ → Type 0) (octets s rest : List ℕ) (n : ℕ) → BeginsWithNo Means octets
    → octets ≡ s ++ rest → Means s n → ⊥
BeginsWithNo-append Means octets s rest n none e means =
    none n (length s)
    (subst (λ z. Means z n) (sym (ap (take (length s)) e ∙ take_at s rest (length s) refl)) means)

-- identifier octets are not empty
pub IsIdentifier-not_empty : (s : List ℕ) (c : ASN1Class) (k : Bool) (n : ℕ) → IsIdentifier s c k n → 0 < length s
IsIdentifier-not_empty [] c k n t = absurd t
IsIdentifier-not_empty (b ∷ s) c k n t = omega arith

-- an encoding has octets
pub Encoding-not_empty : (octets : List ℕ) (c : ASN1Class) (k : Bool) (n : ℕ) (contents : List ℕ) (h : ℕ)
    → Encoding octets c k n contents h → 0 < length octets
Encoding-not_empty octets c k n contents h f =
    omega (
      arith,
      IsIdentifier-not_empty f.identifier c k n f.identifier_octets,
      ap length f.whole,
      length-append f.identifier (f.len ++ contents),
    )

-- two splits of one list at one place are the same
pub append-injective : {A : Type 0} (s t x y : List A) → length s ≡ length t → s ++ x ≡ t ++ y → (s ≡ t) × (x ≡ y)
append-injective s t x y l e =
    let n = length s in (
      sym (take_at s x n refl) ∙ ap (take n) e ∙ take_at t y n (sym l),
      sym (drop_at s x n refl) ∙ ap (drop n) e ∙ drop_at t y n (sym l),
    )

-- continued octets begin no others
pub IsContinued-unique : (s t x y : List ℕ) → IsContinued s → IsContinued t → s ++ x ≡ t ++ y → (s ≡ t) × (x ≡ y)
IsContinued-unique [] t x y p q e = absurd p
IsContinued-unique (a ∷ s) [] x y p q e = absurd q
IsContinued-unique (a ∷ []) (b ∷ []) x y p q e = (cc, cc)
IsContinued-unique (a ∷ []) (b ∷ d ∷ t) x y p q e =
    let h : a ≡ b = cc in
    absurd (omega (arith, p, q.0, h))
IsContinued-unique (a ∷ c ∷ s) (b ∷ []) x y p q e =
    let h : a ≡ b = cc in
    absurd (omega (arith, p.0, q, h))
IsContinued-unique (a ∷ c ∷ s) (b ∷ d ∷ t) x y p q e =
    let h : a ≡ b = cc in
    let r : (c ∷ s) ++ x ≡ (d ∷ t) ++ y = cc in
    let i = IsContinued-unique (c ∷ s) (d ∷ t) x y p.1 q.1 r in
    let j : c ∷ s ≡ d ∷ t = i.0 in
    (cc, i.1)

-- the class of two bits
class_with : ℕ → ASN1Class
class_with zero = Universal
class_with (suc zero) = Application
class_with (suc (suc zero)) = ContextSpecific
class_with (suc (suc (suc n))) = Private

-- the class of the two bits of a class is that class
class_with-class_number : (c : ASN1Class) → class_with (class_number c) ≡ c
unfolding class_with
class_with-class_number Universal = refl
class_with-class_number Application = refl
class_with-class_number ContextSpecific = refl
class_with-class_number Private = refl

-- whether a bit is that of constructed
bit_with : ℕ → Bool
bit_with zero = false
bit_with (suc n) = true

-- the constructed bit of primitive or constructed says which of the two it is
bit_with-constructed_bit : (b : Bool) → bit_with (constructed_bit b) ≡ b
unfolding bit_with
bit_with-constructed_bit true = refl
bit_with-constructed_bit false = refl

-- the constructed bit is one bit
pub constructed_bit-lt : (b : Bool) → constructed_bit b < 2
constructed_bit-lt true = omega arith
constructed_bit-lt false = omega arith

-- two leading octets have the same class, constructed bit and low bits
pub record SameLeading (c d : ASN1Class) (j k : Bool) (m n : ℕ) : Type 0 where
  pub class : c ≡ d
  pub constructed : j ≡ k
  pub low : m ≡ n

-- a leading octet has one class, one constructed bit and one tag number below 32
pub leading_octet-same :
    (c d : ASN1Class) (j k : Bool) (m n : ℕ) → m < 32 → n < 32 → leading_octet c j m ≡ leading_octet d k n →
    SameLeading c d j k m n
leading_octet-same c d j k m n lm ln e =
    let p = constructed_bit-lt j in
    let q = constructed_bit-lt k in
    let f : class_number c ≡ class_number d = omega (arith, e, p, q, lm, ln) in
    let g : constructed_bit j ≡ constructed_bit k = omega (arith, e, p, q, lm, ln, f) in
    record {
      class = sym (class_with-class_number c) ∙ ap class_with f ∙ class_with-class_number d;
      constructed = sym (bit_with-constructed_bit j) ∙ ap bit_with g ∙ bit_with-constructed_bit k;
      low = omega (arith, e, f, g);
    }

-- what two numbers at the front of one list share
pub record SameNumber (s t x y : List ℕ) (m n : ℕ) : Type 0 where
  pub octets : s ≡ t
  pub rest : x ≡ y
  pub number : m ≡ n

-- a base-128 number begins no other
pub IsBase128-unique :
    (s t x y : List ℕ) (m n : ℕ) → IsBase128 s m → IsBase128 t n → s ++ x ≡ t ++ y → SameNumber s t x y m n
IsBase128-unique s t x y m n p q e =
    let f = IsContinued-unique s t x y p.continued q.continued e in
    record { octets = f.0; rest = f.1; number = p.value ∙ ap low_bits_number f.0 ∙ sym q.value }

-- what two identifiers at the front of one list share
pub record SameIdentifier (s t x y : List ℕ) (c d : ASN1Class) (j k : Bool) (m n : ℕ) : Type 0 where
  pub octets : s ≡ t
  pub rest : x ≡ y
  pub class : c ≡ d
  pub constructed : j ≡ k
  pub tag : m ≡ n

-- identifier octets begin no others
pub IsIdentifier-unique :
    (s t x y : List ℕ) (c d : ASN1Class) (j k : Bool) (m n : ℕ) → IsIdentifier s c j m → IsIdentifier t d k n →
    s ++ x ≡ t ++ y → SameIdentifier s t x y c d j k m n
IsIdentifier-unique [] t x y c d j k m n p q e = absurd p
IsIdentifier-unique (a ∷ s) [] x y c d j k m n p q e = absurd q
IsIdentifier-unique (a ∷ []) (b ∷ []) x y c d j k m n p q e =
    let h : a ≡ b = cc in
    let r : x ≡ y = cc in
    let i = leading_octet-same c d j k m n (omega (arith, p.0)) (omega (arith, q.0)) (sym p.1 ∙ h ∙ q.1) in
    record { octets = cc; rest = r; class = i.class; constructed = i.constructed; tag = i.low }
IsIdentifier-unique (a ∷ []) (b ∷ v ∷ t) x y c d j k m n p q e =
    let h : a ≡ b = cc in
    let i = leading_octet-same c d j k m 31 (omega (arith, p.0)) (omega arith) (sym p.1 ∙ h ∙ q.0) in
    absurd (omega (arith, i.low, p.0))
IsIdentifier-unique (a ∷ u ∷ s) (b ∷ []) x y c d j k m n p q e =
    let h : a ≡ b = cc in
    let i = leading_octet-same c d j k 31 n (omega arith) (omega (arith, q.0)) (sym p.0 ∙ h ∙ q.1) in
    absurd (omega (arith, i.low, q.0))
IsIdentifier-unique (a ∷ u ∷ s) (b ∷ v ∷ t) x y c d j k m n p q e =
    let h : a ≡ b = cc in
    let r : (u ∷ s) ++ x ≡ (v ∷ t) ++ y = cc in
    let i = leading_octet-same c d j k 31 31 (omega arith) (omega arith) (sym p.0 ∙ h ∙ q.0) in
    let f = IsBase128-unique (u ∷ s) (v ∷ t) x y m n p.1 q.1 r in
    let g : u ∷ s ≡ v ∷ t = f.octets in
    record { octets = cc; rest = f.rest; class = i.class; constructed = i.constructed; tag = f.number }

-- length octets begin no others
pub IsLength-unique :
    (s t x y : List ℕ) (m n : ℕ) → IsLength s m → IsLength t n → s ++ x ≡ t ++ y → SameNumber s t x y m n
IsLength-unique [] t x y m n p q e = absurd p
IsLength-unique (a ∷ s) [] x y m n p q e = absurd q
IsLength-unique (a ∷ s) (b ∷ t) x y m n (inl (_, p, f)) (inl (_, q, g)) e =
    let h : a ≡ b = cc in
    let i = append-injective (a ∷ s) (b ∷ t) x y (omega (arith, ap length p, ap length q)) e in
    record { octets = i.0; rest = i.1; number = f ∙ h ∙ sym g }
IsLength-unique (a ∷ s) (b ∷ t) x y m n (inl p) (inr q) e =
    let h : a ≡ b = cc in
    absurd (omega (arith, h, p.0, q.0))
IsLength-unique (a ∷ s) (b ∷ t) x y m n (inr p) (inl q) e =
    let h : a ≡ b = cc in
    absurd (omega (arith, h, p.0, q.0))
IsLength-unique (a ∷ s) (b ∷ t) x y m n (inr (p, _, f)) (inr (q, _, g)) e =
    let h : a ≡ b = cc in
    let i = append-injective (a ∷ s) (b ∷ t) x y (omega (arith, h, p, q)) e in
    let o : a ∷ s ≡ b ∷ t = i.0 in
    let r : s ≡ t = cc in
    record { octets = o; rest = i.1; number = f ∙ ap (number_from_digits 256) r ∙ sym g }

-- what two encodings at the front of one list share
pub record SameEncoding (xs ys : List ℕ) (c d : ASN1Class) (j k : Bool) (m n : ℕ) (v w : List ℕ) (g h : ℕ)
    (r q : List ℕ) : Type 0 where
  pub octets : xs ≡ ys
  pub class : c ≡ d
  pub constructed : j ≡ k
  pub tag : m ≡ n
  pub contents : v ≡ w
  pub header : g ≡ h
  pub rest : r ≡ q

-- four lists in a row are one list, whether the last is joined to the first three together or to the third
pub append_assoc-four : (a b c d : List ℕ) → (a ++ (b ++ c)) ++ d ≡ a ++ (b ++ (c ++ d))
append_assoc-four a b c d = simp append_assoc

-- an encoding begins no other
pub Encoding-unique : (xs ys : List ℕ) (c d : ASN1Class) (j k : Bool) (m n : ℕ) (v w : List ℕ) (g h : ℕ) (r q : List ℕ)
    → Encoding xs c j m v g
    → Encoding ys d k n w h → xs ++ r ≡ ys ++ q → SameEncoding xs ys c d j k m n v w g h r q
Encoding-unique xs ys c d j k m n v w g h r q F G e =
    let e1 : F.identifier ++ (F.len ++ (v ++ r)) ≡ G.identifier ++ (G.len ++ (w ++ q)) =
    sym (append_assoc-four F.identifier F.len v r)
    ∙ (ap (λ z. z ++ r) (sym F.whole) ∙ e ∙ ap (λ z. z ++ q) G.whole) ∙ append_assoc-four G.identifier G.len w q in
    let t = IsIdentifier-unique F.identifier G.identifier (F.len ++ (v ++ r)) (G.len ++ (w ++ q)) c d j k m n
    F.identifier_octets G.identifier_octets e1 in
    let l =
    IsLength-unique F.len G.len (v ++ r) (w ++ q) (length v) (length w) F.length_octets G.length_octets t.rest in
    let b = append-injective v w r q l.number l.rest in
    record {
      octets = F.whole ∙ ap (λ z. z ++ (F.len ++ v)) t.octets ∙ ap (λ z. G.identifier ++ (z ++ v)) l.octets
          ∙ ap (λ z. G.identifier ++ (G.len ++ z)) b.0
          ∙ sym G.whole;
      class = t.class;
      constructed = t.constructed;
      tag = t.tag;
      contents = b.0;
      header = F.size ∙ ap (λ z. length z + length F.len) t.octets
          ∙ ap (λ z. length G.identifier + length z) l.octets ∙ sym G.size;
      rest = b.1;
    }

-- encodings at the front of one list have the same identifier octets and the same length octets
pub Encoding-same_parts : (xs ys : List ℕ) (c d : ASN1Class) (j k : Bool) (m n : ℕ) (v w : List ℕ) (g h : ℕ)
    (r q : List ℕ) (F : Encoding xs c j m v g) (G : Encoding ys d k n w h) → xs ++ r ≡ ys ++ q →
    (F.identifier ≡ G.identifier) × (F.len ≡ G.len)
Encoding-same_parts xs ys c d j k m n v w g h r q F G e =
    let whole : F.identifier ++ (F.len ++ (v ++ r)) ≡ G.identifier ++ (G.len ++ (w ++ q)) =
    sym (append_assoc-four F.identifier F.len v r)
    ∙ (ap (λ z. z ++ r) (sym F.whole) ∙ e ∙ ap (λ z. z ++ q) G.whole) ∙ append_assoc-four G.identifier G.len w q in
    let first = IsIdentifier-unique F.identifier G.identifier (F.len ++ (v ++ r)) (G.len ++ (w ++ q)) c d j k m n
    F.identifier_octets G.identifier_octets whole in
    let second =
    IsLength-unique F.len G.len (v ++ r) (w ++ q) (length v) (length w) F.length_octets G.length_octets first.rest in
    (first.octets, second.octets)

-- identifier octets that are found at the front of octets are those that the octets begin with
pub IsSomeIdentifier-front :
    (octets identifier behind : List ℕ) (tag number size : ℕ) → IsSomeIdentifier identifier tag →
    octets ≡ identifier ++ behind →
    IsSomeIdentifier (take size octets) number → (take size octets ≡ identifier) × (drop size octets ≡ behind)
IsSomeIdentifier-front octets identifier behind tag number size (c, k, is) whole (d, j, found) =
    let same = IsIdentifier-unique (take size octets) identifier (drop size octets) behind d c j k number tag found is
    (take-append-drop size octets ∙ whole) in
    (same.octets, same.rest)
