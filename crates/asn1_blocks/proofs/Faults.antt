-- Octets that are at fault are no blocks and no encodings, for all that tells documents from faults.
use Rattle.std.proofs.Common.{◌≡◌, ℕ, ◌+◌, ◌<◌, ◌≤◌, ◌^◌, Bool, List, [], ◌∷◌, ◌++◌, length, refl, sym, ap, ◌∙◌, subst, arith, length-append, append_assoc, append-nil}
use Rattle.std.proofs.lemmas.Bool.{false≢true}
use Rattle.asn1_headers.specs.declared.header.ASN1Class.{ASN1Class}
use Rattle.asn1_headers.specs.declared.header.ASN1Class.TheVariants.{Universal}
use Rattle.asn1_blocks.specs.declared.block.GroupKind.{GroupKind}
use Rattle.asn1_headers.specs.Fault.{DecodeFault}
use Rattle.asn1_headers.specs.Header.{Encoding, IsLength, IsSomeIdentifier}
use Rattle.asn1_blocks.specs.Tree.{Leaf, Trees, no_trees, more_trees}
use Rattle.asn1_blocks.specs.Contents.{leaf_tag, group_tag, IsUnknownTag, LeafContents, LeafFault}
use Rattle.asn1_blocks.specs.Places.{IsEncoding}
use Rattle.asn1_headers.specs.HeaderFault.{HeaderFault, no_identifier, no_length, too_far, too_long}
use Rattle.asn1_blocks.specs.Grammar.{IsBlock, of_not_universal, of_unknown_tag, of_leaf, of_group, AreBlocks, no_blocks, more_blocks, EncodesAll, BlocksFaultAt, in_header, in_contents, in_item}
use Rattle.asn1_blocks.specs.Inner.BlockFault.{BlockFaultAt, at_header, at_leaf, at_item}
use Rattle.asn1_blocks.proofs.Leaves.{leaf_tag-not_group_tag, LeafFault-is_leaf_tag, is_known_tag-is_leaf_tag, is_leaf_tag-not_group_tag, is_known_tag-unknown}
use Rattle.asn1_headers.proofs.Prefixes.{BeginsWithNo-append, Encoding-unique, IsIdentifier-unique, IsLength-unique}
use Rattle.asn1_blocks.proofs.FaultyBlocks.{Encoding-append_not_empty}
use Rattle.asn1_blocks.proofs.OneReading.{IsBlock-not_empty, IsBlock-encodes}
use Rattle.asn1_blocks.proofs.BlockLists.{tree_count}

-- a block is an encoding
pub IsEncoding-block : (octets : List ℕ) → IsBlock octets → IsEncoding octets
IsEncoding-block octets (of_not_universal f ne) =
    record { class = _; constructed = _; tag = _; contents = _; header = _; encoding = f }
IsEncoding-block octets (of_unknown_tag f ne) =
    record { class = _; constructed = _; tag = _; contents = _; header = _; encoding = f }
IsEncoding-block octets (of_leaf f l e p) =
    record { class = _; constructed = _; tag = _; contents = _; header = _; encoding = f }
IsEncoding-block octets (of_group f g e q) =
    record { class = _; constructed = _; tag = _; contents = _; header = _; encoding = f }

-- a block begins no other
pub IsBlock-unique : (xs ys r q : List ℕ) → IsBlock xs → IsBlock ys → xs ++ r ≡ ys ++ q → (xs ≡ ys) × (r ≡ q)
IsBlock-unique xs ys r q a b e =
    let F = IsEncoding-block xs a in
    let G = IsEncoding-block ys b in
    let f = Encoding-unique _ _ _ _ _ _ _ _ _ _ _ _ r q F.encoding G.encoding e in
    (f.octets, f.rest)

-- contents octets that are a block encode one tree
pub tree_count-block : (o : ℕ) (contents : List ℕ) (bs : Trees ℕ) → EncodesAll o contents bs → IsBlock contents →
    tree_count bs ≡ 1
tree_count-block o contents no_trees s b = absurd (omega (arith, IsBlock-not_empty contents b, ap length s))
tree_count-block o contents (more_trees b no_trees) s a = refl
tree_count-block o contents (more_trees b (more_trees c bs)) s a =
    let f =
    IsBlock-unique contents s.first [] s.rest a (IsBlock-encodes o s.first b s.item) (append-nil contents ∙ s.whole) in
    let t = s.items in
    let p = IsBlock-not_empty t.first (IsBlock-encodes _ t.first c t.item) in
    absurd (omega (arith, p, ap length (f.1 ∙ t.whole), length-append t.first t.rest))

-- what follows blocks at the front of blocks is blocks too
pub AreBlocks-rest : (all front rest : List ℕ) → all ≡ front ++ rest → AreBlocks front → AreBlocks all → AreBlocks rest
AreBlocks-rest all front rest e no_blocks bs = subst AreBlocks e bs
AreBlocks-rest all front rest e (more_blocks {x = x} {rest = r} d b fs) no_blocks =
    absurd (omega (arith, IsBlock-not_empty x b, ap length e, ap length d, length-append front rest, length-append x r))
AreBlocks-rest all front rest e (more_blocks {x = x} {rest = r} d b fs) (more_blocks {x = y} {rest = q} d' b' bs) =
    let f = IsBlock-unique x y (r ++ rest) q b b'
    (sym (append_assoc x r rest) ∙ ap (λ z. z ++ rest) (sym d) ∙ sym e ∙ d') in
    AreBlocks-rest q r rest (sym f.1) fs bs

-- octets that are blocks, one or more, begin with a block
pub AreBlocks-first : (octets : List ℕ) → AreBlocks octets → 0 < length octets →
    (x : List ℕ) × (rest : List ℕ) × (octets ≡ x ++ rest) × IsBlock x
AreBlocks-first octets no_blocks h = absurd (omega (arith, h))
AreBlocks-first octets (more_blocks {x = x} {rest = r} d b bs) h = (x, r, d, b)

-- what a block of class Universal holds
pub data UniversalContents (n : ℕ) (contents : List ℕ) : Type 0 where
  is_unknown : IsUnknownTag n → UniversalContents n contents
  is_leaf : (l : Leaf) → n ≡ leaf_tag l → LeafContents l contents → UniversalContents n contents
  is_group : (g : GroupKind) → n ≡ group_tag g → AreBlocks contents → UniversalContents n contents

-- a block of class Universal has the contents octets of its kind
pub UniversalContents-block : (x : List ℕ) (k : Bool) (n : ℕ) (contents : List ℕ) (h : ℕ) →
    Encoding x Universal k n contents h → IsBlock x
    → UniversalContents n contents
UniversalContents-block x k n contents h f (of_not_universal g ne) =
    let s = Encoding-unique _ _ _ _ _ _ _ _ _ _ _ _ [] [] f g refl in
    absurd (ne (sym s.class))
UniversalContents-block x k n contents h f (of_unknown_tag g u) =
    let s = Encoding-unique _ _ _ _ _ _ _ _ _ _ _ _ [] [] f g refl in
    is_unknown (subst IsUnknownTag (sym s.tag) u)
UniversalContents-block x k n contents h f (of_leaf g l t p) =
    let s = Encoding-unique _ _ _ _ _ _ _ _ _ _ _ _ [] [] f g refl in
    is_leaf l (s.tag ∙ t) (subst (LeafContents l) (sym s.contents) p)
UniversalContents-block x k n contents h f (of_group g j t bs) =
    let s = Encoding-unique _ _ _ _ _ _ _ _ _ _ _ _ [] [] f g refl in
    is_group j (s.tag ∙ t) (subst AreBlocks (sym s.contents) bs)

-- octets that begin with an encoding are its parts and what follows them
pub append-encoding_parts : (octets x rest : List ℕ) (c : ASN1Class) (k : Bool) (n : ℕ) (contents : List ℕ) (h : ℕ)
    (f : Encoding x c k n contents h)
    → octets ≡ x ++ rest → octets ≡ f.identifier ++ (f.len ++ (contents ++ rest))
append-encoding_parts octets x rest c k n contents h f e = e ∙ ap (λ z. z ++ rest) f.whole ∙ simp append_assoc

-- the contents octets of an encoding at the front are among the octets
pub length-contents_le : (octets x rest : List ℕ) (c : ASN1Class) (k : Bool) (n : ℕ) (contents : List ℕ) (h : ℕ)
    → Encoding x c k n contents h → octets ≡ x ++ rest
    → length contents ≤ length octets
length-contents_le octets x rest c k n contents h f e = omega (
  arith,
  ap length e,
  length-append x rest,
  ap length f.whole,
  length-append f.identifier (f.len ++ contents),
  length-append f.len contents,
)

-- length octets are not empty
pub IsLength-first : (l : List ℕ) (n : ℕ) → IsLength l n → (b : ℕ) × (r : List ℕ) × (l ≡ b ∷ r)
IsLength-first [] n p = absurd p
IsLength-first (b ∷ r) n p = (b, r, refl)

-- no encoding stands where a header is at fault
pub HeaderFault-not_encoding : (offset : ℕ) (octets x rest : List ℕ) (e : DecodeFault) (c' : ASN1Class) (k' : Bool)
    (n' : ℕ)
    (contents : List ℕ) (h' : ℕ)
    → HeaderFault offset octets e → offset + length octets < 2 ^ 64 → octets ≡ x ++ rest →
    Encoding x c' k' n' contents h' → ⊥
HeaderFault-not_encoding offset octets x rest e c' k' n' contents h' (no_identifier missing) small d f =
    BeginsWithNo-append IsSomeIdentifier octets f.identifier (f.len ++ (contents ++ rest)) n' missing
    (append-encoding_parts octets x rest _ _ _ _ _ f d) (c', k', f.identifier_octets)
HeaderFault-not_encoding offset octets x rest e c' k' n' contents h' (no_length s r n (c, k, t) g missing h) small d f =
    let q = IsIdentifier-unique s f.identifier r (f.len ++ (contents ++ rest)) c c' k k' n n' t
    f.identifier_octets (sym g ∙ append-encoding_parts octets x rest _ _ _ _ _ f d) in
    BeginsWithNo-append IsLength r f.len (contents ++ rest) (length contents) missing q.rest f.length_octets
HeaderFault-not_encoding offset octets x rest e c' k' n' contents h' (too_far s l r n m (c, k, t) u g far h) small d f =
    let q = IsIdentifier-unique s f.identifier (l ++ r) (f.len ++ (contents ++ rest)) c c' k k' n n' t
    f.identifier_octets (sym g ∙ append-encoding_parts octets x rest _ _ _ _ _ f d) in
    let v = IsLength-unique l f.len r (contents ++ rest) m (length contents) u f.length_octets q.rest in
    omega (
      arith,
      far,
      small,
      v.number,
      ap length v.rest,
      ap length g,
      length-append s (l ++ r),
      length-append l r,
      length-append contents rest,
    )
HeaderFault-not_encoding offset octets x rest e c' k' n' contents h'
    (too_long s l r n m (c, k, t) u g near long) small d f =
    let q = IsIdentifier-unique s f.identifier (l ++ r) (f.len ++ (contents ++ rest)) c c' k k' n n' t
    f.identifier_octets (sym g ∙ append-encoding_parts octets x rest _ _ _ _ _ f d) in
    let v = IsLength-unique l f.len r (contents ++ rest) m (length contents) u f.length_octets q.rest in
    omega (arith, long, v.number, ap length v.rest, length-append contents rest)

-- no block stands where a header is at fault
HeaderFault-not_block : (offset : ℕ) (octets x rest : List ℕ) (e : DecodeFault) → HeaderFault offset octets e →
    offset + length octets < 2 ^ 64
    → octets ≡ x ++ rest → IsBlock x → ⊥
HeaderFault-not_block offset octets x rest e w small d b =
    let F = IsEncoding-block x b in
    HeaderFault-not_encoding offset octets x rest e F.class F.constructed F.tag F.contents F.header w small d F.encoding

-- a block of class Universal has the contents octets of the encoding that begins with it
UniversalContents-front : (octets y r x rest : List ℕ) (k : Bool) (n : ℕ) (contents : List ℕ) (h : ℕ) → octets ≡ y ++ r
    → Encoding y Universal k n contents h → octets ≡ x ++ rest → IsBlock x → UniversalContents n contents
UniversalContents-front octets y r x rest k n contents h g f d b =
    let F = IsEncoding-block x b in
    let q = Encoding-unique _ _ _ _ _ _ _ _ _ _ _ _ r rest f F.encoding (sym g ∙ d) in
    UniversalContents-block y k n contents h f (subst IsBlock (sym q.octets) b)

-- the contents octets of a leaf in a block are not at fault
LeafFault-not_contents : (n : ℕ) (contents : List ℕ) (e : DecodeFault) → LeafFault n contents e →
    UniversalContents n contents →
    ⊥
LeafFault-not_contents n contents e p (is_unknown u) =
    false≢true (sym (is_known_tag-unknown n u) ∙ is_known_tag-is_leaf_tag n (LeafFault-is_leaf_tag n contents e p))
LeafFault-not_contents n contents e p (is_leaf l t q) = p.none l t q
LeafFault-not_contents n contents e p (is_group g t bs) =
    is_leaf_tag-not_group_tag n g (LeafFault-is_leaf_tag n contents e p) t

-- the contents octets of a group in a block are blocks
AreBlocks-group_contents : (g : GroupKind) (contents : List ℕ) → UniversalContents (group_tag g) contents →
    AreBlocks contents
AreBlocks-group_contents g contents (is_unknown u) = absurd (u.1 g refl)
AreBlocks-group_contents g contents (is_leaf l t p) = absurd (leaf_tag-not_group_tag l g (sym t))
AreBlocks-group_contents g contents (is_group i t bs) = bs

-- octets at fault are no blocks
pub BlocksFaultAt-not_blocks : (octets : List ℕ) (e : DecodeFault) (o : ℕ) → BlocksFaultAt octets e o →
    length octets < 2 ^ 64
    → AreBlocks octets → ⊥
BlocksFaultAt-not_blocks octets e o (in_header front rest d fs some w) small bs =
    let (x, r, g, b) = AreBlocks-first rest (AreBlocks-rest octets front rest d fs bs) some in
    HeaderFault-not_block (length front) rest x r e w (omega (arith, small, ap length d, length-append front rest)) g b
BlocksFaultAt-not_blocks octets e o
    (in_contents {contents = v} {constructed = k} {tag = n} {header = h} front y rest d fs f l) small bs =
    let all = y ++ rest in
    let (x, r, g, b) = AreBlocks-first all (AreBlocks-rest octets front all d fs bs)
    (Encoding-append_not_empty y rest Universal k n v h f) in
    LeafFault-not_contents n v e l (UniversalContents-front all y rest x r k n v h refl f g b)
BlocksFaultAt-not_blocks octets e o
    (in_item {contents = v} {constructed = k} {header = h} {inside = i} front y rest d fs j f p) small bs =
    let all = y ++ rest in
    let n = group_tag j in
    let (x, r, g, b) = AreBlocks-first all (AreBlocks-rest octets front all d fs bs)
    (Encoding-append_not_empty y rest Universal k n v h f) in
    let within = length-contents_le all y rest Universal k n v h f refl in
    BlocksFaultAt-not_blocks v e i p (omega (arith, small, ap length d, length-append front all, within))
    (AreBlocks-group_contents j v (UniversalContents-front all y rest x r k n v h refl f g b))

-- where the first block is at fault, no block stands
pub BlockFaultAt-not_block : (offset : ℕ) (octets x rest : List ℕ) (e : DecodeFault) (o : ℕ) →
    BlockFaultAt offset octets e o
    → offset + length octets < 2 ^ 64 → octets ≡ x ++ rest → IsBlock x → ⊥
BlockFaultAt-not_block offset octets x rest e o (at_header w) small d b =
    HeaderFault-not_block offset octets x rest e w small d b
BlockFaultAt-not_block offset octets x rest e o
    (at_leaf y r {constructed = k} {tag = n} {contents = v} {header = h} g f l) small d b =
    LeafFault-not_contents n v e l (UniversalContents-front octets y r x rest k n v h g f d b)
BlockFaultAt-not_block offset octets x rest e o
    (at_item y r {constructed = k} {contents = v} {header = h} {inside = i} g j f p) small d b =
    let n = group_tag j in
    BlocksFaultAt-not_blocks v e i p (omega (arith, small, length-contents_le octets y r Universal k n v h f g))
    (AreBlocks-group_contents j v (UniversalContents-front octets y r x rest k n v h g f d b))

-- one block is blocks one after another
pub AreBlocks-single : (octets : List ℕ) → IsBlock octets → AreBlocks octets
AreBlocks-single octets b = more_blocks (sym (append-nil octets)) b no_blocks
