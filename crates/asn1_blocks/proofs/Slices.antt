-- The octets of a tree of a document, and documents one after another, for `encoding::encoding_at`, `asn1_outline` and
-- `simple_asn1`.
use Rattle.std.proofs.Common.{◌≡◌, ℕ, ◌+◌, ◌-◌, List, [], ◌++◌, ◌↔◌, length, take, drop, sym, ap, ◌∙◌, subst, arith, length-append, append_assoc, append-nil}
use Rattle.std.specs.List.{slice_range}
use Rattle.std.proofs.lemmas.List.{take_at, drop_at}
use Rattle.asn1_blocks.specs.Tree.{Tree, Trees, leaf, group, explicit, unknown, no_trees, more_trees}
use Rattle.asn1_blocks.specs.View.{tree_offset}
use Rattle.asn1_blocks.specs.Grammar.{Encodes, EncodesAll, IsDocument}
use Rattle.asn1_blocks.specs.Places.{with_offsets, all_with_offsets, rebased, all_later, joined, end_before, StandsIn, itself, in_group, in_explicit, StandsAmong, in_first, in_later, HasOctets, EncodingAt}
use Rattle.asn1_headers.proofs.Prefixes.{Encoding-unique}
use Rattle.asn1_blocks.proofs.OneReading.{IsBlock-not_empty, IsBlock-encodes, EncodesAll-single}
use Rattle.asn1_blocks.proofs.Faults.{IsEncoding-block}

-- a tree has the offset that it was read at
pub tree_offset-encodes : (o : ℕ) (x : List ℕ) (b : Tree ℕ) → Encodes o x b → tree_offset b ≡ o
tree_offset-encodes o x (leaf p l) s = s.0
tree_offset-encodes o x (group p g bs) s = s.0
tree_offset-encodes o x (explicit c p n b) s = s.0
tree_offset-encodes o x (unknown c k p n v) s = s.0

-- a function that shifts all offsets from o on shifts o
shifted-first : (f : ℕ → ℕ) (o q : ℕ) → ((d : ℕ) → f (o + d) ≡ q + d) → f o ≡ q
shifted-first f o q h =
    let e : o ≡ o + 0 = omega arith in
    let g : q + 0 ≡ q = omega arith in
    ap f e ∙ h 0 ∙ g

-- a function that shifts all offsets from o on shifts those from a later one on
shifted-further : (f : ℕ → ℕ) (o q n : ℕ) → ((d : ℕ) → f (o + d) ≡ q + d) → (d : ℕ) → f ((o + n) + d) ≡ (q + n) + d
shifted-further f o q n h d =
    let e : (o + n) + d ≡ o + (n + d) = omega arith in
    let g : q + (n + d) ≡ (q + n) + d = omega arith in
    ap f e ∙ h (n + d) ∙ g

mutual
  -- octets that encode a tree encode one with other offsets where they stand elsewhere
  pub Encodes-with_offsets : (f : ℕ → ℕ) (o q : ℕ) (x : List ℕ) (b : Tree ℕ) → ((d : ℕ) → f (o + d) ≡ q + d) →
      Encodes o x b
      → Encodes q x (with_offsets f b)
  Encodes-with_offsets f o q x (leaf p l) h (at, k, v, n, e, means) =
      (ap f at ∙ shifted-first f o q h, k, v, n, e, means)
  Encodes-with_offsets f o q x (group p g bs) h (at, k, v, n, e, means) = (
    ap f at ∙ shifted-first f o q h,
    k,
    v,
    n,
    e,
    EncodesAll-all_with_offsets f (o + n) (q + n) v bs
        (shifted-further f o q n h) means,
  )
  Encodes-with_offsets f o q x (explicit c p t b) h (at, other, v, n, e, means) = (
    ap f at ∙ shifted-first f o q h,
    other,
    v,
    n,
    e,
    Encodes-with_offsets f (o + n) (q + n) v b
        (shifted-further f o q n h) means,
  )
  Encodes-with_offsets f o q x (unknown c k p t v) h (at, n, e, stays) = (ap f at ∙ shifted-first f o q h, n, e, stays)

  -- octets that encode trees encode them with other offsets where they stand elsewhere
  pub EncodesAll-all_with_offsets :
      (f : ℕ → ℕ) (o q : ℕ) (x : List ℕ) (bs : Trees ℕ) → ((d : ℕ) → f (o + d) ≡ q + d) →
      EncodesAll o x bs → EncodesAll q x (all_with_offsets f bs)
  EncodesAll-all_with_offsets f o q x no_trees h s = s
  EncodesAll-all_with_offsets f o q x (more_trees b bs) h s = record {
    first = s.first;
    rest = s.rest;
    whole = s.whole;
    item = Encodes-with_offsets f o q s.first b h s.item;
    items =
        EncodesAll-all_with_offsets f (o + length s.first) (q + length s.first) s.rest bs
        (shifted-further f o q (length s.first) h)
        s.items;
  }

-- b stands in the octets i, and ends at j
pub record IsFoundIn (i : List ℕ) (b : Tree ℕ) (j : ℕ) : Type 0 where
  pub before : List ℕ
  pub octets : List ℕ
  pub behind : List ℕ
  pub whole : i ≡ before ++ (octets ++ behind)
  pub ends : j ≡ length before + length octets
  pub encoded : Encodes (length before) octets b

-- what stands before trees ends where they begin
pub end_before-encodes : (o e : ℕ) (x : List ℕ) (bs : Trees ℕ) → EncodesAll o x bs → e ≡ o + length x →
    end_before bs e ≡ o
end_before-encodes o e x no_trees s h = omega (arith, h, ap length s)
end_before-encodes o e x (more_trees b bs) s h = tree_offset-encodes o s.first b s.item

module _ (i u x v : List ℕ) (w : i ≡ u ++ (x ++ v)) where
  -- the first of octets that stand in others stand there
  pub middle-first : (y r : List ℕ) → x ≡ y ++ r → i ≡ u ++ (y ++ (r ++ v))
  middle-first y r d = w ∙ ap (λ z. u ++ (z ++ v)) d ∙ ap (λ z. u ++ z) (append_assoc y r v)

  -- the rest of octets that stand in others stand there
  pub middle-rest : (y r : List ℕ) → x ≡ y ++ r → i ≡ (u ++ y) ++ (r ++ v)
  middle-rest y r d = middle-first y r d ∙ sym (append_assoc u y (r ++ v))

  -- the contents octets of an encoding that stands in others stand there
  pub middle-contents : (t l contents : List ℕ) → x ≡ t ++ (l ++ contents) → i ≡ (u ++ (t ++ l)) ++ (contents ++ v)
  middle-contents t l contents d = middle-rest (t ++ l) contents (d ∙ sym (append_assoc t l contents))

mutual
  -- a tree that stands in one that was read is found in the octets
  pub IsFoundIn-tree :
      (a : Tree ℕ) (e : ℕ) (b : Tree ℕ) (j : ℕ) (i u x v : List ℕ) → i ≡ u ++ (x ++ v) →
      e ≡ length u + length x → Encodes (length u) x a → StandsIn a e b j → IsFoundIn i b j
  IsFoundIn-tree a e b j i u x v w n s itself =
      record { before = u; octets = x; behind = v; whole = w; ends = n; encoded = s }
  IsFoundIn-tree a e b j i u x v w n s (in_group {bs = bs} t) =
      let (_, _, contents, header, f, items) = s in
      let h : length u + header ≡ length (u ++ (f.identifier ++ f.len)) = omega
      (arith, f.size, length-append u (f.identifier ++ f.len), length-append f.identifier f.len) in
      IsFoundIn-trees bs e b j i (u ++ (f.identifier ++ f.len)) contents v
      (middle-contents i u x v w f.identifier f.len contents f.whole)
      (omega (
        arith,
        n,
        h,
        f.size,
        ap length f.whole,
        length-append f.identifier (f.len ++ contents),
        length-append f.len contents,
      ))
      (subst (λ z. EncodesAll z contents bs) h items) t
  IsFoundIn-tree a e b j i u x v w n s (in_explicit {a = y} t) =
      let (_, _, contents, header, f, item) = s in
      let h : length u + header ≡ length (u ++ (f.identifier ++ f.len)) = omega
      (arith, f.size, length-append u (f.identifier ++ f.len), length-append f.identifier f.len) in
      IsFoundIn-tree y e b j i (u ++ (f.identifier ++ f.len)) contents v
      (middle-contents i u x v w f.identifier f.len contents f.whole)
      (omega (
        arith,
        n,
        h,
        f.size,
        ap length f.whole,
        length-append f.identifier (f.len ++ contents),
        length-append f.len contents,
      ))
      (subst (λ z. Encodes z contents y) h item) t

  -- a tree that stands among trees that were read is found in the octets
  pub IsFoundIn-trees :
      (bs : Trees ℕ) (e : ℕ) (b : Tree ℕ) (j : ℕ) (i u x v : List ℕ) → i ≡ u ++ (x ++ v) →
      e ≡ length u + length x → EncodesAll (length u) x bs → StandsAmong bs e b j → IsFoundIn i b j
  IsFoundIn-trees bs e b j i u x v w n s (in_first {a = a} {bs = cs} t) =
      IsFoundIn-tree a (end_before cs e) b j i u s.first (s.rest ++ v) (middle-first i u x v w s.first s.rest s.whole)
      (end_before-encodes (length u + length s.first) e s.rest cs s.items
      (omega (arith, n, ap length s.whole, length-append s.first s.rest))) s.item t
  IsFoundIn-trees bs e b j i u x v w n s (in_later {bs = cs} t) =
      let h : length u + length s.first ≡ length (u ++ s.first) = omega (arith, length-append u s.first) in
      IsFoundIn-trees cs e b j i (u ++ s.first) s.rest v (middle-rest i u x v w s.first s.rest s.whole)
      (omega (arith, n, h, ap length s.whole, length-append s.first s.rest))
      (subst (λ z. EncodesAll z s.rest cs) h s.items) t

-- octets that stand in others are a slice of them
pub slice_range-middle : (i u x v : List ℕ) (o j : ℕ) → i ≡ u ++ (x ++ v) → o ≡ length u → j ≡ length u + length x →
    slice_range i o j ≡ x
slice_range-middle i u x v o j w p q =
    let e : j - o ≡ length x = omega (arith, p, q) in
    ap (λ z. take (j - o) (drop o z)) w ∙ ap (take (j - o)) (drop_at u (x ++ v) o (sym p)) ∙ take_at x v (j - o) (sym e)

-- octets that encode a tree are a document of it
pub IsDocument-rebased : (o : ℕ) (x : List ℕ) (b : Tree ℕ) → Encodes o x b →
    IsDocument x (more_trees (rebased b) no_trees)
IsDocument-rebased o x b s =
    let p = tree_offset-encodes o x b s in
    record {
      some = IsBlock-not_empty x (IsBlock-encodes o x b s);
      blocks = EncodesAll-single 0 x (rebased b)
          (Encodes-with_offsets (λ z. z - tree_offset b) o 0 x b (λ d. omega (arith, p)) s);
    }

-- where octets that encode a tree stand
pub record HasPlace (i : List ℕ) (b : Tree ℕ) (octets : List ℕ) : Type 0 where
  pub before : List ℕ
  pub behind : List ℕ
  pub whole : i ≡ before ++ (octets ++ behind)
  pub at : length before ≡ tree_offset b
  pub encoded : Encodes (tree_offset b) octets b

-- where the octets of a tree of a document stand
pub HasPlace-octets :
    (i : List ℕ) (bs : Trees ℕ) (b : Tree ℕ) (octets : List ℕ) → IsDocument i bs →
    HasOctets i bs b octets → HasPlace i b octets
HasPlace-octets i bs b octets d h =
    let f = IsFoundIn-trees bs (length i) b h.end i [] i [] (sym (append-nil i)) (omega arith) d.blocks h.place in
    let o = tree_offset-encodes (length f.before) f.octets b f.encoded in
    let e : octets ≡ f.octets =
    h.octets_are ∙ slice_range-middle i f.before f.octets f.behind (tree_offset b) h.end f.whole o f.ends in
    record {
      before = f.before;
      behind = f.behind;
      whole = f.whole ∙ ap (λ z. f.before ++ (z ++ f.behind)) (sym e);
      at = sym o;
      encoded = subst (λ z. Encodes (tree_offset b) z b) (sym e) (subst (λ z. Encodes z f.octets b) (sym o) f.encoded);
    }

-- the octets of a tree are an encoding at its offset
pub EncodingAt-tree_octets : (i : List ℕ) (bs : Trees ℕ) (b : Tree ℕ) (octets : List ℕ) → IsDocument i bs →
    HasOctets i bs b octets
    → EncodingAt i (tree_offset b) octets
EncodingAt-tree_octets i bs b octets d h =
    let f = HasPlace-octets i bs b octets d h in
    record {
      rest = f.behind;
      at_offset = ap (drop (tree_offset b)) f.whole ∙ drop_at f.before (octets ++ f.behind) (tree_offset b) f.at;
      encoding = IsEncoding-block octets (IsBlock-encodes (tree_offset b) octets b f.encoded);
    }

-- at most one encoding stands at an offset
pub EncodingAt-unique : (i : List ℕ) (o : ℕ) (x y : List ℕ) → EncodingAt i o x → EncodingAt i o y → x ≡ y
EncodingAt-unique i o x y p q =
    (Encoding-unique _ _ _ _ _ _ _ _ _ _ _ _ p.rest q.rest p.encoding.encoding q.encoding.encoding
    (sym p.at_offset ∙ q.at_offset)).octets

-- the encoding at the offset of a tree is that of the tree
pub EncodingAt-iff_octets :
    (i : List ℕ) (bs : Trees ℕ) (b : Tree ℕ) (octets other : List ℕ) → IsDocument i bs →
    HasOctets i bs b octets → EncodingAt i (tree_offset b) other ↔ (other ≡ octets)
EncodingAt-iff_octets i bs b octets other d h =
    let e = EncodingAt-tree_octets i bs b octets d h in
    (λ p. EncodingAt-unique i (tree_offset b) other octets p e, λ q. subst (EncodingAt i (tree_offset b)) (sym q) e)

-- octets that encode trees, and octets behind them that encode others, encode all of these trees
pub EncodesAll-joined : (o : ℕ) (x y : List ℕ) (xs ys : Trees ℕ) → EncodesAll o x xs → EncodesAll (o + length x) y ys
    → EncodesAll o (x ++ y) (joined xs ys)
EncodesAll-joined o x y no_trees ys s t =
    let e : o + length x ≡ o = omega (arith, ap length s) in
    subst (λ z. EncodesAll o z ys) (sym (ap (λ z. z ++ y) s)) (subst (λ z. EncodesAll z y ys) e t)
EncodesAll-joined o x y (more_trees b xs) ys s t =
    let e : o + length x ≡ (o + length s.first) + length s.rest =
    omega (arith, ap length s.whole, length-append s.first s.rest) in
    record {
      first = s.first;
      rest = s.rest ++ y;
      whole = ap (λ z. z ++ y) s.whole ∙ append_assoc s.first s.rest y;
      item = s.item;
      items = EncodesAll-joined (o + length s.first) s.rest y xs ys s.items (subst (λ z. EncodesAll z y ys) e t);
    }

-- two documents one after another are one
pub IsDocument-joined : (i k : List ℕ) (xs ys : Trees ℕ) → IsDocument i xs → IsDocument k ys
    → IsDocument (i ++ k) (joined xs (all_later (length i) ys))
IsDocument-joined i k xs ys d e = record {
  some = omega (arith, d.some, length-append i k);
  blocks = EncodesAll-joined 0 i k xs (all_later (length i) ys) d.blocks
      (EncodesAll-all_with_offsets (λ z. z + length i) 0 (0 + length i) k ys (λ n. omega arith) e.blocks);
}
