-- Octets have at most one first fault, for all that returns it, and for `laws::law_one_reading` and
-- `laws::law_fault_place` of `simple_asn1`.
use Rattle.std.proofs.Common.{◌≡◌, ℕ, ◌+◌, ◌<◌, ◌^◌, Bool, List, [], ◌++◌, inl, inr, length, refl, sym, ap, ◌∙◌, subst, arith, length-append, append_assoc}
use Rattle.asn1_headers.specs.declared.header.ASN1Class.TheVariants.{Universal}
use Rattle.asn1_headers.specs.Fault.{DecodeFault, length_too_large}
use Rattle.asn1_headers.specs.Header.{BeginsWithNo, Encoding, IsLength, IsSomeIdentifier, length_fault}
use Rattle.asn1_headers.specs.HeaderFault.{HeaderFault, no_identifier, no_length, too_far, too_long}
use Rattle.asn1_blocks.specs.Grammar.{IsBlock, AreBlocks, no_blocks, more_blocks, BlocksFaultAt, in_header, in_contents, in_item, FirstFaultAt, FirstFault}
use Rattle.asn1_blocks.specs.Inner.BlockFault.{BlockFaultAt, at_header, at_leaf, at_item}
use Rattle.asn1_blocks.specs.Contents.{LeafFault, group_tag}
use Rattle.asn1_blocks.specs.declared.block.GroupKind.{GroupKind}
use Rattle.asn1_blocks.proofs.Leaves.{LeafFault-is_leaf_tag, LeafFault-unique, is_leaf_tag-not_group_tag}
use Rattle.asn1_headers.proofs.Prefixes.{BeginsWithNo-append, Encoding-unique, IsIdentifier-unique, IsLength-unique}
use Rattle.asn1_blocks.proofs.FaultyBlocks.{BlocksFaultAt-faulty_block}
use Rattle.asn1_blocks.proofs.Faults.{IsBlock-unique, length-contents_le, HeaderFault-not_encoding, BlockFaultAt-not_block}

-- identifier octets stand at the front in one way
IsSomeIdentifier-unique : (octets s s' rest rest' : List ℕ) (n n' : ℕ) → IsSomeIdentifier s n → octets ≡ s ++ rest →
    IsSomeIdentifier s' n' → octets ≡ s' ++ rest' → (s ≡ s') × (rest ≡ rest')
IsSomeIdentifier-unique octets s s' rest rest' n n' (c, k, t) g (c', k', t') g' =
    let q = IsIdentifier-unique s s' rest rest' c c' k k' n n' t t' (sym g ∙ g') in (q.octets, q.rest)

-- no identifier and length octets stand where no length octets follow identifier octets
IsLength-not_without_length : (octets s s' l rest rest' : List ℕ) (n n' m : ℕ) → IsSomeIdentifier s n →
    octets ≡ s ++ rest → BeginsWithNo IsLength rest → IsSomeIdentifier s' n' → IsLength l m →
    octets ≡ s' ++ (l ++ rest') → ⊥
IsLength-not_without_length octets s s' l rest rest' n n' m t g none t' u g' =
    BeginsWithNo-append IsLength rest l rest' m none
    (IsSomeIdentifier-unique octets s s' rest (l ++ rest') n n' t g t' g').1 u

-- two headers at the front of one list are of one size and have one length
IsLength-same_header : (octets s s' l l' rest rest' : List ℕ) (n n' m m' : ℕ) → IsSomeIdentifier s n → IsLength l m →
    octets ≡ s ++ (l ++ rest) → IsSomeIdentifier s' n' → IsLength l' m' → octets ≡ s' ++ (l' ++ rest') →
    (length s + length l ≡ length s' + length l') × (m ≡ m')
IsLength-same_header octets s s' l l' rest rest' n n' m m' t u g t' u' g' =
    let q = IsSomeIdentifier-unique octets s s' (l ++ rest) (l' ++ rest') n n' t g t' g' in
    let v = IsLength-unique l l' rest rest' m m' u u' q.1 in
    (omega (arith, ap length q.0, ap length v.octets), v.number)

-- a header has at most one fault
pub HeaderFault-unique : (offset : ℕ) (octets : List ℕ) (e d : DecodeFault) → HeaderFault offset octets e →
    HeaderFault offset octets d → e ≡ d
HeaderFault-unique offset octets e d (no_identifier none) (no_identifier none') = refl
HeaderFault-unique offset octets e d (no_identifier none) (no_length s r n t g shut h) =
    absurd (BeginsWithNo-append IsSomeIdentifier octets s r n none g t)
HeaderFault-unique offset octets e d (no_identifier none) (too_far s l r n m t u g far h) =
    absurd (BeginsWithNo-append IsSomeIdentifier octets s (l ++ r) n none g t)
HeaderFault-unique offset octets e d (no_identifier none) (too_long s l r n m t u g near long) =
    absurd (BeginsWithNo-append IsSomeIdentifier octets s (l ++ r) n none g t)
HeaderFault-unique offset octets e d (no_length s r n t g shut h) (no_identifier none) =
    absurd (BeginsWithNo-append IsSomeIdentifier octets s r n none g t)
HeaderFault-unique offset octets e d (no_length s r n t g shut h) (no_length s' r' n' t' g' shut' h') =
    h ∙ ap length_fault (IsSomeIdentifier-unique octets s s' r r' n n' t g t' g').1 ∙ sym h'
HeaderFault-unique offset octets e d (no_length s r n t g shut h) (too_far s' l r' n' m t' u g' far h') =
    absurd (IsLength-not_without_length octets s s' l r r' n n' m t g shut t' u g')
HeaderFault-unique offset octets e d (no_length s r n t g shut h) (too_long s' l r' n' m t' u g' near long) =
    absurd (IsLength-not_without_length octets s s' l r r' n n' m t g shut t' u g')
HeaderFault-unique offset octets e d (too_far s l r n m t u g far h) (no_identifier none) =
    absurd (BeginsWithNo-append IsSomeIdentifier octets s (l ++ r) n none g t)
HeaderFault-unique offset octets e d (too_far s' l r' n' m t' u g' far h') (no_length s r n t g shut h) =
    absurd (IsLength-not_without_length octets s s' l r r' n n' m t g shut t' u g')
HeaderFault-unique offset octets e d (too_far s l r n m t u g far h) (too_far s' l' r' n' m' t' u' g' far' h') =
    h ∙ ap length_too_large (IsLength-same_header octets s s' l l' r r' n n' m m' t u g t' u' g').1 ∙ sym h'
HeaderFault-unique offset octets e d (too_far s l r n m t u g far h) (too_long s' l' r' n' m' t' u' g' near long) =
    let q = IsLength-same_header octets s s' l l' r r' n n' m m' t u g t' u' g' in
    absurd (omega (arith, far, near, q.0, q.1))
HeaderFault-unique offset octets e d (too_long s l r n m t u g near long) (no_identifier none) =
    absurd (BeginsWithNo-append IsSomeIdentifier octets s (l ++ r) n none g t)
HeaderFault-unique offset octets e d (too_long s' l r' n' m t' u g' near long) (no_length s r n t g shut h) =
    absurd (IsLength-not_without_length octets s s' l r r' n n' m t g shut t' u g')
HeaderFault-unique offset octets e d (too_long s l r n m t u g near long) (too_far s' l' r' n' m' t' u' g' far h) =
    let q = IsLength-same_header octets s s' l l' r r' n n' m m' t u g t' u' g' in
    absurd (omega (arith, far, near, q.0, q.1))
HeaderFault-unique offset octets e d (too_long s l r n m t u g near long)
    (too_long s' l' r' n' m' t' u' g' near' long') = refl

-- where there are no octets, no block is at fault
pub BlocksFaultAt-not_empty : (octets : List ℕ) (e : DecodeFault) (o : ℕ) → BlocksFaultAt octets e o → octets ≡ [] → ⊥
BlocksFaultAt-not_empty octets e o p h =
    let v = BlocksFaultAt-faulty_block octets e o p in
    omega (arith, v.some, ap length v.whole, ap length h, length-append v.front v.rest)

-- blocks at the front of the same octets, up to where no block follows, are the same
pub AreBlocks-same_front : (octets front rest front' rest' : List ℕ) → AreBlocks front → AreBlocks front' →
    octets ≡ front ++ rest
    → octets ≡ front' ++ rest'
    → ((x r : List ℕ) → rest ≡ x ++ r → IsBlock x → ⊥) → ((x r : List ℕ) → rest' ≡ x ++ r → IsBlock x → ⊥)
    → (front ≡ front') × (rest ≡ rest')
AreBlocks-same_front octets front rest front' rest' no_blocks no_blocks e d none none' = (refl, sym e ∙ d)
AreBlocks-same_front octets front rest front' rest' no_blocks (more_blocks {x = x} {rest = r} g b bs) e d none none' =
    absurd (none x (r ++ rest') (sym e ∙ d ∙ ap (λ z. z ++ rest') g ∙ append_assoc x r rest') b)
AreBlocks-same_front octets front rest front' rest' (more_blocks {x = x} {rest = r} g b bs) no_blocks e d none none' =
    absurd (none' x (r ++ rest) (sym d ∙ e ∙ ap (λ z. z ++ rest) g ∙ append_assoc x r rest) b)
AreBlocks-same_front octets front rest front' rest' (more_blocks {x = x} {rest = r} g b bs)
    (more_blocks {x = y} {rest = q} h c cs) e d none none' =
    let f = IsBlock-unique x y (r ++ rest) (q ++ rest') b c
    (sym (append_assoc x r rest) ∙ ap (λ z. z ++ rest) (sym g) ∙ sym e ∙ d ∙ ap (λ z. z ++ rest') h
    ∙ append_assoc y q rest') in
    let i = AreBlocks-same_front (r ++ rest) r rest q rest' bs cs refl f.1 none none' in
    (g ∙ ap (λ z. z ++ r) f.0 ∙ ap (λ z. y ++ z) i.0 ∙ sym h, i.1)

-- a block whose header is at fault has no other fault
HeaderFault-same_block_fault : (offset : ℕ) (octets : List ℕ) (e d : DecodeFault) (j : ℕ) →
    HeaderFault offset octets e →
    BlockFaultAt offset octets d j
    → offset + length octets < 2 ^ 64 → (e ≡ d) × (0 ≡ j)
HeaderFault-same_block_fault offset octets e d j w (at_header v) small =
    (HeaderFault-unique offset octets e d w v, refl)
HeaderFault-same_block_fault offset octets e d j w (at_leaf x rest g f l) small =
    absurd (HeaderFault-not_encoding offset octets x rest e _ _ _ _ _ w small g f)
HeaderFault-same_block_fault offset octets e d j w (at_item x rest g y f p) small =
    absurd (HeaderFault-not_encoding offset octets x rest e _ _ _ _ _ w small g f)

module _ (offset : ℕ) (octets x rest : List ℕ) (k : Bool) (n : ℕ) (contents : List ℕ) (h : ℕ)
    (whole : octets ≡ x ++ rest) (f : Encoding x Universal k n contents h) (small : offset + length octets < 2 ^ 64)
  where
    -- a fault of the contents octets of a leaf is the fault of the block
    LeafFault-same_block_fault : (e d : DecodeFault) (j : ℕ) → LeafFault n contents e → BlockFaultAt offset octets d j →
        (e ≡ d) × (0 ≡ j)
    LeafFault-same_block_fault e d j l (at_header w) =
        absurd (HeaderFault-not_encoding offset octets x rest d _ _ _ _ _ w small whole f)
    LeafFault-same_block_fault e d j l (at_leaf x' rest' {tag = m} {contents = v} g f' l') =
        let s = Encoding-unique _ _ _ _ _ _ _ _ _ _ _ _ rest rest' f f' (sym whole ∙ g) in
        let there = subst (λ z. LeafFault n z d) (sym s.contents) (subst (λ z. LeafFault z v d) (sym s.tag) l') in
        (LeafFault-unique n contents e d l there, refl)
    LeafFault-same_block_fault e d j l (at_item x' rest' g y f' p) =
        let s = Encoding-unique _ _ _ _ _ _ _ _ _ _ _ _ rest rest' f f' (sym whole ∙ g) in
        absurd (is_leaf_tag-not_group_tag n y (LeafFault-is_leaf_tag n contents e l) s.tag)

    -- a fault in a group is one of its contents octets
    BlockFaultAt-in_group : (i : GroupKind) (d : DecodeFault) (j : ℕ) → n ≡ group_tag i → BlockFaultAt offset octets d j
        → (inside : ℕ) × BlocksFaultAt contents d inside × (j ≡ h + inside)
    BlockFaultAt-in_group i d j t (at_header w) =
        absurd (HeaderFault-not_encoding offset octets x rest d _ _ _ _ _ w small whole f)
    BlockFaultAt-in_group i d j t (at_leaf x' rest' {tag = m} {contents = v} g f' l) =
        let s = Encoding-unique _ _ _ _ _ _ _ _ _ _ _ _ rest rest' f f' (sym whole ∙ g) in
        absurd (is_leaf_tag-not_group_tag m i (LeafFault-is_leaf_tag m v d l) (sym s.tag ∙ t))
    BlockFaultAt-in_group i d j t (at_item x' rest' {header = h'} {inside = o} g y f' p) =
        let s = Encoding-unique _ _ _ _ _ _ _ _ _ _ _ _ rest rest' f f' (sym whole ∙ g) in
        (o, subst (λ z. BlocksFaultAt z d o) (sym s.contents) p, ap (λ z. z + o) (sym s.header))

-- where blocks end and one is at fault, any fault is of that block
BlocksFaultAt-same_block : (octets front rest : List ℕ) (e d : DecodeFault) (i p : ℕ) → octets ≡ front ++ rest →
    AreBlocks front
    → BlockFaultAt (length front) rest e i → BlocksFaultAt octets d p → length octets < 2 ^ 64
    → (length front + length rest < 2 ^ 64) × (j : ℕ) × BlockFaultAt (length front) rest d j × (p ≡ length front + j)
BlocksFaultAt-same_block octets front rest e d i p g fs a b small =
    let v = BlocksFaultAt-faulty_block octets d p b in
    let fits : length front + length rest < 2 ^ 64 = omega (arith, small, ap length g, length-append front rest) in
    let fits' : length v.front + length v.rest < 2 ^ 64 =
    omega (arith, small, ap length v.whole, length-append v.front v.rest) in
    let s = AreBlocks-same_front octets front rest v.front v.rest fs v.blocks g v.whole
    (λ x r h c. BlockFaultAt-not_block (length front) rest x r e i a fits h c)
    (λ x r h c. BlockFaultAt-not_block (length v.front) v.rest x r d v.inside v.fault fits' h c) in
    let there = subst (λ z. BlockFaultAt (length front) z d v.inside) (sym s.1)
    (subst (λ z. BlockFaultAt (length z) v.rest d v.inside) (sym s.0) v.fault) in
    (fits, v.inside, there, omega (arith, v.offset_is, ap length s.0))

-- octets that are read as blocks have one fault, at one place
BlocksFaultAt-unique : (octets : List ℕ) (e d : DecodeFault) (o p : ℕ) → BlocksFaultAt octets e o →
    BlocksFaultAt octets d p
    → length octets < 2 ^ 64 → (e ≡ d) × (o ≡ p)
BlocksFaultAt-unique octets e d o p (in_header front rest g fs some w) b small =
    let (fits, j, v, at) = BlocksFaultAt-same_block octets front rest e d 0 p g fs (at_header w) b small in
    let a = HeaderFault-same_block_fault (length front) rest e d j w v fits in
    (a.0, omega (arith, a.1, at))
BlocksFaultAt-unique octets e d o p
    (in_contents {contents = c} {constructed = k} {tag = n} {header = h} front x rest g fs f l) b small =
    let (fits, j, v, at) =
    BlocksFaultAt-same_block octets front (x ++ rest) e d 0 p g fs (at_leaf x rest refl f l) b small in
    let a = LeafFault-same_block_fault (length front) (x ++ rest) x rest k n c h refl f fits e d j l v in
    (a.0, omega (arith, a.1, at))
BlocksFaultAt-unique octets e d o p
    (in_item {contents = c} {constructed = k} {header = h} {inside = i} front x rest g fs y f q) b small =
    let n = group_tag y in
    let (fits, j, v, at) =
    BlocksFaultAt-same_block octets front (x ++ rest) e d (h + i) p g fs (at_item x rest refl y f q) b small in
    let (m, r, inside) = BlockFaultAt-in_group (length front) (x ++ rest) x rest k n c h refl f fits y d j refl v in
    let within = length-contents_le (x ++ rest) x rest Universal k n c h f refl in
    let a = BlocksFaultAt-unique c e d i m q r (omega (arith, fits, within)) in
    (a.0, omega (arith, a.1, inside, at))

-- octets have at most one first fault, at one place
pub FirstFaultAt-unique :
    (octets : List ℕ) (e d : DecodeFault) (o p : ℕ) → length octets < 2 ^ 64 →
    FirstFaultAt octets e o → FirstFaultAt octets d p → (e ≡ d) × (o ≡ p)
FirstFaultAt-unique octets e d o p small (inl a) (inl b) = (a.1 ∙ sym b.1, a.2 ∙ sym b.2)
FirstFaultAt-unique octets e d o p small (inl a) (inr b) = absurd (BlocksFaultAt-not_empty octets d p b a.0)
FirstFaultAt-unique octets e d o p small (inr a) (inl b) = absurd (BlocksFaultAt-not_empty octets e o a b.0)
FirstFaultAt-unique octets e d o p small (inr a) (inr b) = BlocksFaultAt-unique octets e d o p a b small

-- octets have at most one first fault
pub FirstFault-unique : (octets : List ℕ) (e d : DecodeFault) → FirstFault octets e → FirstFault octets d →
    length octets < 2 ^ 64 → e ≡ d
FirstFault-unique octets e d (o, a) (p, b) small = (FirstFaultAt-unique octets e d o p small a b).0
