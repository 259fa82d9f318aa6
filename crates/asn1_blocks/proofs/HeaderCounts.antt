-- The number of headers that a reader begins, for `read_loop`, and for `laws::law_one_reading` of `simple_asn1`.
use Rattle.std.proofs.Common.{◌≡◌, ℕ, ◌+◌, ◌<◌, ◌≤◌, Bool, List, [], ◌++◌, length, refl, sym, ap, ◌∙◌, subst, arith, length-append, append_assoc, append-nil}
use Rattle.asn1_headers.specs.declared.header.ASN1Class.{ASN1Class}
use Rattle.asn1_headers.specs.Header.{Encoding}
use Rattle.asn1_blocks.specs.Grammar.{IsBlock, AreBlocks, no_blocks, more_blocks}
use Rattle.asn1_blocks.specs.HeadersBegun.{IsReadInside, HeadersBegun, begun_none, begun_some, BegunInside, inside_first, nothing_inside, BegunAfter, after_first, nothing_after}
use Rattle.asn1_headers.proofs.Prefixes.{Encoding-unique, IsIdentifier-not_empty, Encoding-not_empty}
use Rattle.asn1_blocks.proofs.OneReading.{IsBlock-not_empty}
use Rattle.asn1_blocks.proofs.Faults.{IsEncoding-block, IsBlock-unique}

mutual
  -- octets have one number of headers begun
  pub HeadersBegun-unique : (octets : List ℕ) (m n : ℕ) → HeadersBegun octets m → HeadersBegun octets n → m ≡ n
  HeadersBegun-unique octets m n (begun_none e) (begun_none d) = refl
  HeadersBegun-unique octets m n (begun_none e) (begun_some some a b i f g) = absurd (omega (arith, some, ap length e))
  HeadersBegun-unique octets m n (begun_some some a b i f g) (begun_none e) = absurd (omega (arith, some, ap length e))
  HeadersBegun-unique octets m n (begun_some some a b i f g) (begun_some some' a' b' i' f' g') =
      let p = BegunInside-unique octets a a' i i' in
      let q = BegunAfter-unique octets b b' f f' in
      omega (arith, p, q, g, g')

  -- one number of headers is begun inside the first encoding
  BegunInside-unique : (octets : List ℕ) (m n : ℕ) → BegunInside octets m → BegunInside octets n → m ≡ n
  BegunInside-unique octets m n (inside_first x r e F o B) (inside_first y q d G o' C) =
      let s = Encoding-unique _ _ _ _ _ _ _ _ _ _ _ _ r q F G (sym e ∙ d) in
      HeadersBegun-unique _ m n B (subst (λ z. HeadersBegun z n) (sym s.contents) C)
  BegunInside-unique octets m n (inside_first x r e F o B) (nothing_inside shut) = absurd (shut x r _ _ _ _ _ e F o)
  BegunInside-unique octets m n (nothing_inside shut) (inside_first x r e F o B) = absurd (shut x r _ _ _ _ _ e F o)
  BegunInside-unique octets m n (nothing_inside shut) (nothing_inside shut') = refl

  -- one number of headers is begun after the first block
  BegunAfter-unique : (octets : List ℕ) (m n : ℕ) → BegunAfter octets m → BegunAfter octets n → m ≡ n
  BegunAfter-unique octets m n (after_first x r e b B) (after_first y q d c C) =
      let s = IsBlock-unique x y r q b c (sym e ∙ d) in
      HeadersBegun-unique _ m n B (subst (λ z. HeadersBegun z n) (sym s.1) C)
  BegunAfter-unique octets m n (after_first x r e b B) (nothing_after shut) = absurd (shut x r e b)
  BegunAfter-unique octets m n (nothing_after shut) (after_first x r e b B) = absurd (shut x r e b)
  BegunAfter-unique octets m n (nothing_after shut) (nothing_after shut') = refl

-- an encoding is a header and its contents octets
pub length-encoding : (x : List ℕ) (c : ASN1Class) (k : Bool) (n : ℕ) (contents : List ℕ) (h : ℕ) →
    Encoding x c k n contents h
    → (length x ≡ h + length contents) × (0 < h)
length-encoding x c k n contents h f = (
  omega (
    arith,
    f.size,
    ap length f.whole,
    length-append f.identifier (f.len ++ contents),
    length-append f.len contents,
  ),
  omega (arith, f.size, IsIdentifier-not_empty f.identifier c k n f.identifier_octets),
)

-- at most one header for each octet
pub HeadersBegun-le_length : (octets : List ℕ) (n : ℕ) → HeadersBegun octets n → n ≤ length octets
HeadersBegun-le_length octets n (begun_none e) = omega arith
HeadersBegun-le_length octets n (begun_some some a b (nothing_inside shut) (nothing_after shut') g) =
    omega (arith, g, some)
HeadersBegun-le_length octets n (begun_some some a b (nothing_inside shut) (after_first x r e B C) g) =
    omega (arith, g, HeadersBegun-le_length r b C, IsBlock-not_empty x B, ap length e, length-append x r)
HeadersBegun-le_length octets n (begun_some some a b
    (inside_first x r {class = c} {constructed = k} {tag = t} {contents = contents} {header = h} e F o B)
    (nothing_after shut) g) =
    let l = length-encoding x c k t contents h F in
    omega (arith, g, HeadersBegun-le_length contents a B, l.0, l.1, ap length e, length-append x r)
HeadersBegun-le_length octets n (begun_some some a b
    (inside_first x r {class = c} {constructed = k} {tag = t} {contents = contents} {header = h} e F o B)
    (after_first y q d A C) g) =
    let l = length-encoding x c k t contents h F in
    let G = IsEncoding-block y A in
    let s = Encoding-unique _ _ _ _ _ _ _ _ _ _ _ _ r q F G.encoding (sym e ∙ d) in
    omega (
      arith,
      g,
      HeadersBegun-le_length contents a B,
      HeadersBegun-le_length q b C,
      l.0,
      l.1,
      ap length e,
      length-append x r,
      ap length s.rest,
    )

-- more octets behind a block change nothing about the headers begun inside it
BegunInside-append : (octets rest x r : List ℕ) (a : ℕ) → octets ≡ x ++ r → IsBlock x → BegunInside octets a →
    BegunInside (octets ++ rest) a
BegunInside-append octets rest x r a e b (inside_first y q d F o B) =
    inside_first y (q ++ rest) (ap (λ z. z ++ rest) d ∙ append_assoc y q rest) F o B
BegunInside-append octets rest x r a e b (nothing_inside shut) =
    let G = IsEncoding-block x b in
    nothing_inside (λ y q c k n contents h d F o.
    let s = Encoding-unique _ _ _ _ _ _ _ _ _ _ _ _ q (r ++ rest) F G.encoding
    (sym d ∙ ap (λ z. z ++ rest) e ∙ append_assoc x r rest) in
    shut y r c k n contents h (e ∙ ap (λ z. z ++ r) (sym s.octets)) F o)

-- the headers begun in blocks and in what follows them add up
pub HeadersBegun-append : (front rest : List ℕ) (a b : ℕ) → AreBlocks front → HeadersBegun front a → HeadersBegun rest b
    → HeadersBegun (front ++ rest) (a + b)
HeadersBegun-append front rest a b no_blocks (begun_none e) B =
    let z : b ≡ 0 + b = omega arith in
    subst (λ n. HeadersBegun rest n) z B
HeadersBegun-append front rest a b no_blocks (begun_some some c d i f g) B = absurd (omega (arith, some))
HeadersBegun-append front rest a b (more_blocks {x = x} {rest = r} e k ks) (begun_none d) B =
    absurd (omega (arith, IsBlock-not_empty x k, ap length e, ap length d, length-append x r))
HeadersBegun-append front rest a b (more_blocks {x = x} {rest = r} e k ks)
    (begun_some some c d i (nothing_after shut) g) B =
    absurd (shut x r e k)
HeadersBegun-append front rest a b (more_blocks {x = x} {rest = r} e k ks)
    (begun_some some c d i (after_first y q e' k' C) g)
    B =
    let s = IsBlock-unique x y r q k k' (sym e ∙ e') in
    let t = HeadersBegun-append r rest d b ks (subst (λ z. HeadersBegun z d) (sym s.1) C) B in
    begun_some (omega (arith, some, length-append front rest)) c (d + b) (BegunInside-append front rest x r c e k i)
    (after_first x (r ++ rest) (ap (λ z. z ++ rest) e ∙ append_assoc x r rest) k t) (omega (arith, g))

-- a block that is read inside begins its own header and those of its contents octets
pub HeadersBegun-read_inside : (x : List ℕ) (c : ASN1Class) (k : Bool) (n : ℕ) (contents : List ℕ) (h a : ℕ) →
    Encoding x c k n contents h
    → IsReadInside c k n → IsBlock x
    → HeadersBegun contents a → HeadersBegun x (1 + a)
HeadersBegun-read_inside x c k n contents h a F o b B =
    begun_some (Encoding-not_empty x c k n contents h F) a 0 (inside_first x [] (sym (append-nil x)) F o B)
    (after_first x [] (sym (append-nil x)) b (begun_none refl)) (omega arith)

-- nothing is begun inside an encoding that is not read inside
pub BegunInside-not_read_inside : (octets x rest : List ℕ) (c : ASN1Class) (k : Bool) (n : ℕ) (contents : List ℕ)
    (h : ℕ) →
    Encoding x c k n contents h
    → octets ≡ x ++ rest → (IsReadInside c k n → ⊥) → BegunInside octets 0
BegunInside-not_read_inside octets x rest c k n contents h f d shut = nothing_inside (λ y q c' j m v g e G p.
    let s = Encoding-unique _ _ _ _ _ _ _ _ _ _ _ _ rest q f G (sym d ∙ e) in
    shut (subst (λ z. IsReadInside z k n) (sym s.class) (subst (λ z. IsReadInside c' z n) (sym s.constructed)
    (subst (λ z. IsReadInside c' j z) (sym s.tag) p))))

-- a block that is not read inside begins one header
pub HeadersBegun-not_read_inside : (x : List ℕ) (c : ASN1Class) (k : Bool) (n : ℕ) (contents : List ℕ) (h : ℕ) →
    Encoding x c k n contents h
    → (IsReadInside c k n → ⊥) → IsBlock x → HeadersBegun x 1
HeadersBegun-not_read_inside x c k n contents h F o b =
    begun_some (Encoding-not_empty x c k n contents h F) 0 0
    (BegunInside-not_read_inside x x [] c k n contents h F (sym (append-nil x)) o)
    (after_first x [] (sym (append-nil x)) b (begun_none refl)) refl
