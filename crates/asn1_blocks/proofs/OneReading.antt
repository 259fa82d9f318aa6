-- Octets encode at most one tree, for all that reads or writes blocks.
use Rattle.std.proofs.Common.{◌≡◌, ℕ, ◌+◌, ◌<◌, List, [], ◌++◌, inl, inr, length, refl, sym, ap, ◌∙◌, subst, arith, append-nil, length-append}
use Rattle.asn1_headers.specs.Header.{Encoding}
use Rattle.asn1_blocks.specs.Tree.{Tree, Trees, leaf, group, explicit, unknown, no_trees, more_trees}
use Rattle.asn1_blocks.specs.Contents.{LeafContents}
use Rattle.asn1_blocks.specs.Grammar.{IsBlock, of_not_universal, of_unknown_tag, of_leaf, of_group, AreBlocks, no_blocks, more_blocks, Encodes, EncodesAll}
use Rattle.asn1_blocks.specs.Inner.EqualityLaws.{group_tag-injective}
use Rattle.asn1_blocks.proofs.Leaves.{leaf_tag-not_group_tag, LeafContents-unique}
use Rattle.asn1_headers.proofs.Prefixes.{Encoding-unique, Encoding-not_empty}

mutual
  -- octets that encode a tree are a block
  pub IsBlock-encodes : (o : ℕ) (octets : List ℕ) (b : Tree ℕ) → Encodes o octets b → IsBlock octets
  IsBlock-encodes o octets (leaf p l) (_, _, _, _, F, means) = of_leaf F l refl means
  IsBlock-encodes o octets (group p g bs) (_, _, contents, header, F, items) =
      of_group F g refl (AreBlocks-encodes (o + header) contents bs items)
  IsBlock-encodes o octets (explicit c p n b) (_, other, _, _, F, _) = of_not_universal F other
  IsBlock-encodes o octets (unknown c k p n v) (_, header, F, stays) =
      elim stays [
        | inl (class, tag) ↦ of_unknown_tag (subst (λ d. Encoding octets d k n v header) class F) tag
        | inr (other, _) ↦ of_not_universal F other
      ]

  -- octets that encode trees are blocks
  pub AreBlocks-encodes : (o : ℕ) (octets : List ℕ) (bs : Trees ℕ) → EncodesAll o octets bs → AreBlocks octets
  AreBlocks-encodes o octets no_trees s = subst AreBlocks (sym s) no_blocks
  AreBlocks-encodes o octets (more_trees b bs) s =
      more_blocks s.whole (IsBlock-encodes o s.first b s.item)
      (AreBlocks-encodes (o + length s.first) s.rest bs s.items)

-- octets that encode a tree encode it alone
pub EncodesAll-single : (o : ℕ) (octets : List ℕ) (b : Tree ℕ) → Encodes o octets b →
    EncodesAll o octets (more_trees b no_trees)
EncodesAll-single o octets b s =
    record { first = octets; rest = []; whole = sym (append-nil octets); item = s; items = refl }

-- octets that encode a list of one tree encode the tree
pub Encodes-single : (o : ℕ) (octets : List ℕ) (b : Tree ℕ) → EncodesAll o octets (more_trees b no_trees) →
    Encodes o octets b
Encodes-single o octets b s =
    let whole : octets ≡ s.first = s.whole ∙ (ap (λ z. s.first ++ z) s.items ∙ append-nil s.first) in
    subst (λ z. Encodes o z b) (sym whole) s.item

-- a block has octets
pub IsBlock-not_empty : (octets : List ℕ) → IsBlock octets → 0 < length octets
IsBlock-not_empty octets (of_not_universal f ne) = Encoding-not_empty _ _ _ _ _ _ f
IsBlock-not_empty octets (of_unknown_tag f ne) = Encoding-not_empty _ _ _ _ _ _ f
IsBlock-not_empty octets (of_leaf f l e p) = Encoding-not_empty _ _ _ _ _ _ f
IsBlock-not_empty octets (of_group f g e q) = Encoding-not_empty _ _ _ _ _ _ f

mutual
  -- octets of a tree begin those of no other
  pub Encodes-unique : (o : ℕ) (xs ys r q : List ℕ) (a b : Tree ℕ) → Encodes o xs a → Encodes o ys b → xs ++ r ≡ ys ++ q
      → (xs ≡ ys) × (a ≡ b) × (r ≡ q)
  Encodes-unique o xs ys r q (leaf p l) (leaf p' m) (at, _, contents, _, F, means) (at', _, _, _, F', means') e =
      let f = Encoding-unique _ _ _ _ _ _ _ _ _ _ _ _ r q F F' e in
      let g = LeafContents-unique l m contents f.tag means (subst (LeafContents m) (sym f.contents) means') in
      let h : p ≡ p' = at ∙ sym at' in
      (f.octets, cc, f.rest)
  Encodes-unique o xs ys r q (leaf p l) (group p' g bs) (_, _, _, _, F, _) (_, _, _, _, F', _) e =
      let f = Encoding-unique _ _ _ _ _ _ _ _ _ _ _ _ r q F F' e in
      absurd (leaf_tag-not_group_tag l g f.tag)
  Encodes-unique o xs ys r q (leaf p l) (explicit c p' n b) (_, _, _, _, F, _) (_, other', _, _, F', _) e =
      let f = Encoding-unique _ _ _ _ _ _ _ _ _ _ _ _ r q F F' e in
      absurd (other' (sym f.class))
  Encodes-unique o xs ys r q (leaf p l) (unknown c k p' n v) (_, _, _, _, F, _) (_, _, F', stays') e =
      let f = Encoding-unique _ _ _ _ _ _ _ _ _ _ _ _ r q F F' e in
      absurd (elim stays' [ inl (_, no_rule) ↦ no_rule.0 l (sym f.tag) | inr (class, _) ↦ class (sym f.class) ])
  Encodes-unique o xs ys r q (group p g bs) (leaf p' m) (_, _, _, _, F, _) (_, _, _, _, F', _) e =
      let f = Encoding-unique _ _ _ _ _ _ _ _ _ _ _ _ r q F F' e in
      absurd (leaf_tag-not_group_tag m g (sym f.tag))
  Encodes-unique o xs ys r q (group p g bs) (group p' g' cs) (at, _, contents, header, F, items)
      (at', _, _, header', F', items') e =
      let f = Encoding-unique _ _ _ _ _ _ _ _ _ _ _ _ r q F F' e in
      let i : g ≡ g' = group_tag-injective g g' f.tag in
      let b = EncodesAll-unique (o + header) contents bs cs items
      (subst (λ z. EncodesAll (o + z) contents cs) (sym f.header)
      (subst (λ z. EncodesAll (o + header') z cs) (sym f.contents) items')) in
      let h : p ≡ p' = at ∙ sym at' in
      (f.octets, cc, f.rest)
  Encodes-unique o xs ys r q (group p g bs) (explicit c p' n b) (_, _, _, _, F, _) (_, other', _, _, F', _) e =
      let f = Encoding-unique _ _ _ _ _ _ _ _ _ _ _ _ r q F F' e in
      absurd (other' (sym f.class))
  Encodes-unique o xs ys r q (group p g bs) (unknown c k p' n v) (_, _, _, _, F, _) (_, _, F', stays') e =
      let f = Encoding-unique _ _ _ _ _ _ _ _ _ _ _ _ r q F F' e in
      absurd (elim stays' [ inl (_, no_rule) ↦ no_rule.1 g (sym f.tag) | inr (class, _) ↦ class (sym f.class) ])
  Encodes-unique o xs ys r q (explicit c p n a) (leaf p' m) (_, other, _, _, F, _) (_, _, _, _, F', _) e =
      let f = Encoding-unique _ _ _ _ _ _ _ _ _ _ _ _ r q F F' e in
      absurd (other f.class)
  Encodes-unique o xs ys r q (explicit c p n a) (group p' g bs) (_, other, _, _, F, _) (_, _, _, _, F', _) e =
      let f = Encoding-unique _ _ _ _ _ _ _ _ _ _ _ _ r q F F' e in
      absurd (other f.class)
  Encodes-unique o xs ys r q (explicit c p n a) (explicit d p' m b) (at, _, contents, header, F, item)
      (at', _, _, header', F', item') e =
      let f = Encoding-unique _ _ _ _ _ _ _ _ _ _ _ _ r q F F' e in
      let g = Encodes-unique (o + header) contents contents [] [] a b item
      (subst (λ z. Encodes (o + z) contents b) (sym f.header)
      (subst (λ z. Encodes (o + header') z b) (sym f.contents) item'))
      refl in
      let h : p ≡ p' = at ∙ sym at' in
      let i : a ≡ b = g.1 in
      let j = f.class in
      let k = f.tag in
      (f.octets, cc, f.rest)
  Encodes-unique o xs ys r q (explicit c p n a) (unknown d k p' m v) (_, other, contents, header, F, item)
      (_, _, F', stays') e =
      let f = Encoding-unique _ _ _ _ _ _ _ _ _ _ _ _ r q F F' e in
      absurd (elim stays' [
        | inl u ↦ other (f.class ∙ u.0)
        | inr u ↦ u.1
            (sym f.constructed, subst IsBlock f.contents (IsBlock-encodes (o + header) contents a item))
      ])
  Encodes-unique o xs ys r q (unknown c k p n v) (leaf p' m) (_, _, F, stays) (_, _, _, _, F', _) e =
      let f = Encoding-unique _ _ _ _ _ _ _ _ _ _ _ _ r q F F' e in
      absurd (elim stays [ inl (_, no_rule) ↦ no_rule.0 m f.tag | inr (class, _) ↦ class f.class ])
  Encodes-unique o xs ys r q (unknown c k p n v) (group p' g bs) (_, _, F, stays) (_, _, _, _, F', _) e =
      let f = Encoding-unique _ _ _ _ _ _ _ _ _ _ _ _ r q F F' e in
      absurd (elim stays [ inl (_, no_rule) ↦ no_rule.1 g f.tag | inr (class, _) ↦ class f.class ])
  Encodes-unique o xs ys r q (unknown c k p n v) (explicit d p' m b) (_, _, F, stays)
      (_, other', contents', header', F', item') e =
      let f = Encoding-unique _ _ _ _ _ _ _ _ _ _ _ _ r q F F' e in
      absurd (elim stays [
        | inl u ↦ other' (sym f.class ∙ u.0)
        | inr u ↦ u.1
            (f.constructed, subst IsBlock (sym f.contents) (IsBlock-encodes (o + header') contents' b item'))
      ])
  Encodes-unique o xs ys r q (unknown c k p n v) (unknown d j p' m w) (at, _, F, _) (at', _, F', _) e =
      let f = Encoding-unique _ _ _ _ _ _ _ _ _ _ _ _ r q F F' e in
      let h : p ≡ p' = at ∙ sym at' in
      let i = f.class in
      let l = f.constructed in
      let g = f.tag in
      let z = f.contents in
      (f.octets, cc, f.rest)

  -- octets encode at most one list of trees
  pub EncodesAll-unique : (o : ℕ) (octets : List ℕ) (xs ys : Trees ℕ) → EncodesAll o octets xs →
      EncodesAll o octets ys →
      xs ≡ ys
  EncodesAll-unique o octets no_trees no_trees s t = refl
  EncodesAll-unique o octets no_trees (more_trees b bs) s t =
      let p = IsBlock-not_empty t.first (IsBlock-encodes o t.first b t.item) in
      absurd (omega (arith, p, ap length (sym s ∙ t.whole), length-append t.first t.rest))
  EncodesAll-unique o octets (more_trees a xs) no_trees s t =
      let p = IsBlock-not_empty s.first (IsBlock-encodes o s.first a s.item) in
      absurd (omega (arith, p, ap length (sym t ∙ s.whole), length-append s.first s.rest))
  EncodesAll-unique o octets (more_trees a xs) (more_trees b ys) s t =
      let f = Encodes-unique o s.first t.first s.rest t.rest a b s.item t.item (sym s.whole ∙ t.whole) in
      let h : a ≡ b = f.1 in
      let g = EncodesAll-unique (o + length s.first) s.rest xs ys s.items
      (subst (λ z. EncodesAll (o + length z) s.rest ys) (sym f.0)
      (subst (λ z. EncodesAll (o + length t.first) z ys) (sym f.2) t.items)) in
      cc
