-- What encodings one after another begin with, an encoding or end-of-contents octets, for `encodings`, `listing` and
-- `laws::law_departures`.
use Rattle.std.proofs.Common.{◌≡◌, ℕ, ◌+◌, ◌<◌, ◌^◌, Bool, true, false, List, [], ◌∷◌, ◌++◌, inl, length, drop, refl, sym, ap, ◌∙◌, subst, arith, append-nil, length-append}
use Rattle.std.proofs.lemmas.Bool.{and_parts}
use Rattle.std.specs.Prelude.{◌&&◌, nat_lt, suc, if◌then◌else◌}
use Rattle.asn1_headers.specs.Header.{Encoding}
use Rattle.asn1_headers.specs.declared.header.ASN1Class.{ASN1Class}
use Rattle.asn1_headers.specs.declared.header.ASN1Class.TheVariants.{Universal}
use Rattle.asn1_headers.proofs.Prefixes.{Encoding-not_empty, Encoding-same_parts, Encoding-unique}
use Rattle.asn1_der.specs.Der.{AreDerEncodings, IsDerEncoding, more_encodings, no_encodings}
use Rattle.asn1_der.proofs.DerEncodings.{Encoding-der, is_indefinite-der}
use Rattle.asn1_blocks.specs.Places.{HasNoEncodingAt, IsEncoding}
use Rattle.asn1_headers.proofs.IndefiniteForms.{begins_with_end-cons}
use Rattle.asn1_der.specs.Listing.{is_at_end}
use Rattle.asn1_der.specs.Departures.{AreEncodings, IsNext, end_of_contents, next, no_more, unended_behind}
use Rattle.asn1_headers.specs.Indefinite.{begins_with_end, is_indefinite}

-- end-of-contents octets are an encoding
pub Encoding-end_of_contents : Encoding (0 ∷ 0 ∷ []) Universal false 0 [] 2
Encoding-end_of_contents = record {
  identifier = 0 ∷ [];
  len = 0 ∷ [];
  identifier_octets = (omega arith, refl);
  length_octets = inl (omega arith, refl, refl);
  whole = refl;
  size = refl;
}

-- an encoding at the front of octets that begin with end-of-contents octets is these two octets
pub Encoding-is_end_of_contents :
    (x first rest behind : List ℕ) (c : ASN1Class) (k : Bool) (n : ℕ) (v : List ℕ) (h : ℕ) → Encoding first c k n v h →
    x ≡ first ++ rest → x ≡ 0 ∷ 0 ∷ behind → first ≡ 0 ∷ 0 ∷ []
Encoding-is_end_of_contents x first rest behind c k n v h e w z =
    (Encoding-unique first (0 ∷ 0 ∷ []) c Universal k false n 0 v [] h 2 rest behind e Encoding-end_of_contents
    (sym w ∙ z)).octets

-- behind the first of encodings one after another there are encodings
pub AreEncodings-behind_next :
    (u : ℕ) (x first rest : List ℕ) (n : IsNext u x first rest) → AreEncodings u x →
    AreEncodings (unended_behind u n.constructed n.encoding.len) rest
AreEncodings-behind_next u x first rest n (no_more z e) =
    absurd (omega (
      arith,
      Encoding-not_empty first n.class n.constructed n.tag n.contents n.header n.encoding,
      ap length n.whole,
      ap length e,
      length-append first rest,
    ))
AreEncodings-behind_next u x first rest n (next {first = f} {rest = r} m a) =
    let e : first ++ rest ≡ f ++ r = sym n.whole ∙ m.whole in
    let same = Encoding-unique first f n.class m.class n.constructed m.constructed n.tag m.tag n.contents m.contents
    n.header m.header rest r n.encoding m.encoding e in
    let parts = Encoding-same_parts first f n.class m.class n.constructed m.constructed n.tag m.tag n.contents
    m.contents n.header m.header rest r n.encoding m.encoding e in
    subst (λ z. AreEncodings (unended_behind u n.constructed n.encoding.len) z) (sym same.rest)
    (subst (λ z. AreEncodings (unended_behind u n.constructed z) r) (sym parts.1)
    (subst (λ z. AreEncodings (unended_behind u z m.encoding.len) r) (sym same.constructed) a))
AreEncodings-behind_next u x first rest n (end_of_contents {fewer = f} more z a) =
    absurd (n.no_end (omega (arith, more))
    (Encoding-is_end_of_contents x first rest _ n.class n.constructed n.tag n.contents n.header n.encoding n.whole z))

-- where end-of-contents octets close an encoding, there are encodings behind them, with one open encoding fewer
pub AreEncodings-behind_end :
    (u fewer : ℕ) (x rest : List ℕ) → u ≡ fewer + 1 → x ≡ 0 ∷ 0 ∷ rest → AreEncodings u x → AreEncodings fewer rest
AreEncodings-behind_end u fewer x rest more e (no_more z none) = absurd (omega (arith, more, z))
AreEncodings-behind_end u fewer x rest more e (next {first = f} {rest = r} m a) =
    absurd (m.no_end (omega (arith, more))
    (Encoding-is_end_of_contents x f r rest m.class m.constructed m.tag m.contents m.header m.encoding m.whole e))
AreEncodings-behind_end u fewer x rest more e (end_of_contents {fewer = f} {rest = r} more' e' a) =
    let same : r ≡ rest = cc in
    let count : f ≡ fewer = omega (arith, more, more') in
    subst (λ z. AreEncodings z rest) count (subst (λ z. AreEncodings f z) same a)

-- no encoding is open at the end of the octets
pub AreEncodings-nil : (u : ℕ) (x : List ℕ) → x ≡ [] → AreEncodings u x → u ≡ 0
AreEncodings-nil u x e (no_more z none) = z
AreEncodings-nil u x e (next {first = f} {rest = r} m a) =
    absurd (omega (
      arith,
      Encoding-not_empty f m.class m.constructed m.tag m.contents m.header m.encoding,
      ap length m.whole,
      ap length e,
      length-append f r,
    ))
AreEncodings-nil u x e (end_of_contents more w a) = absurd (omega (arith, ap length w, ap length e))

-- as many encodings are open behind one of the definite form
pub unended_behind-definite : (u : ℕ) (k : Bool) (len : List ℕ) → is_indefinite len ≡ false → unended_behind u k len ≡ u
unended_behind-definite u true len e = ap (λ b. if b then suc u else u) e
unended_behind-definite u false len e = refl

-- an encoding of DER in front is the next encoding
pub IsNext-der : (x first rest : List ℕ) → x ≡ first ++ rest → length first < 2 ^ 64 → IsDerEncoding first →
    IsNext 0 x first rest
IsNext-der x first rest whole small d =
    let (c, k, n, v, h, e) = Encoding-der first small d in
    record {
      class = c;
      constructed = k;
      tag = n;
      contents = v;
      header = h;
      encoding = e;
      whole = whole;
      no_end = λ more. absurd (omega (arith, more));
    }

-- encodings of DER are encodings
pub AreDerEncodings-are_encodings : (x : List ℕ) (items : List (List ℕ)) → length x < 2 ^ 64 → AreDerEncodings x items →
    AreEncodings 0 x
AreDerEncodings-are_encodings x items small no_encodings = no_more refl refl
AreDerEncodings-are_encodings x items small (more_encodings {first = f} {rest = r} {items = is} w d ds) =
    let size : length x ≡ length f + length r = ap length w ∙ length-append f r in
    let n = IsNext-der x f r w (omega (arith, small, size)) d in
    let definite = is_indefinite-der f n.class n.constructed n.tag n.contents n.header n.encoding
    (omega (arith, small, size)) d in
    next n (subst (λ z. AreEncodings z r) (sym (unended_behind-definite 0 n.constructed n.encoding.len definite))
    (AreDerEncodings-are_encodings r is (omega (arith, small, size)) ds))

-- where end-of-contents octets close an encoding, an encoding is open, and the octets begin with them
pub is_at_end-parts : (u : ℕ) (x : List ℕ) → is_at_end u x ≡ true → (0 < u) × (begins_with_end x ≡ true)
is_at_end-parts u x t = (grind (arith, t), (and_parts (nat_lt 0 u) (begins_with_end x) t).1)

-- where an encoding is open but none is closed in front, the octets do not begin with end-of-contents octets
pub begins_with_end-not_at_end : (u : ℕ) (x : List ℕ) → is_at_end u x ≡ false → 0 < u → begins_with_end x ≡ false
begins_with_end-not_at_end u x t some =
    let yes : nat_lt 0 u ≡ true = grind (arith, some) in
    sym (ap (λ b. b && begins_with_end x) yes) ∙ t

-- where no end-of-contents octets close an encoding, the first encoding is not end-of-contents octets
pub is_at_end-none_in_front :
    (u : ℕ) (x first rest : List ℕ) → x ≡ first ++ rest → is_at_end u x ≡ false → 0 < u → first ≡ 0 ∷ 0 ∷ [] → ⊥
is_at_end-none_in_front u x first rest w t some is =
    let front : x ≡ 0 ∷ 0 ∷ rest = w ∙ ap (λ z. z ++ rest) is in
    let yes : begins_with_end x ≡ true = ap begins_with_end front in
    let no : begins_with_end x ≡ false = begins_with_end-not_at_end u x t some in
    absurd cc

-- an encoding that begins with end-of-contents octets is these alone
pub IsEncoding-begins_with_end : (x : List ℕ) → IsEncoding x → begins_with_end x ≡ true → x ≡ 0 ∷ 0 ∷ []
IsEncoding-begins_with_end x is end =
    Encoding-is_end_of_contents x x [] (drop 2 x) is.class is.constructed is.tag is.contents is.header is.encoding
    (sym (append-nil x)) (begins_with_end-cons x end)

-- octets with no encoding in front are encodings only if there are no octets, and no encoding is open
pub AreEncodings-none_here : (u : ℕ) (x : List ℕ) → HasNoEncodingAt x 0 → AreEncodings u x → (u ≡ 0) × (x ≡ [])
AreEncodings-none_here u x none (no_more z e) = (z, e)
AreEncodings-none_here u x none (next {first = f} {rest = r} n a) = absurd (none f (record {
  rest = r;
  at_offset = n.whole;
  encoding = record {
    class = n.class;
    constructed = n.constructed;
    tag = n.tag;
    contents = n.contents;
    header = n.header;
    encoding = n.encoding;
  };
}))
AreEncodings-none_here u x none (end_of_contents {rest = r} more e a) =
    absurd (none (0 ∷ 0 ∷ []) (record {
      rest = r;
      at_offset = e;
      encoding = record {
        class = Universal;
        constructed = false;
        tag = 0;
        contents = [];
        header = 2;
        encoding = Encoding-end_of_contents;
      };
    }))
