-- All octets encode trees or are at fault, for `laws::law_one_reading`, `laws::law_wider` and `strict`.
use Rattle.std.proofs.Common.{◌≡◌, ◌≢◌, ℕ, zero, suc, ◌+◌, ◌*◌, ◌<◌, ◌^◌, Bool, true, false, List, [], ◌∷◌, ◌++◌, ◌⊎◌, inl, inr, length, refl, sym, ap, ◌∙◌, subst, arith, length-append, append_assoc, append-nil}
use Rattle.std.proofs.lemmas.Bool.{false≢true}
use Rattle.asn1_headers.specs.declared.header.ASN1Class.{ASN1Class}
use Rattle.asn1_headers.specs.declared.header.ASN1Class.TheVariants.{Universal, Application, ContextSpecific, Private}
use Rattle.asn1_headers.specs.Fault.{DecodeFault, empty_buffer}
use Rattle.asn1_headers.specs.Header.{Encoding}
use Rattle.asn1_blocks.specs.Tree.{Tree, Trees, leaf, group, explicit, unknown, no_trees, more_trees}
use Rattle.asn1_blocks.specs.Grammar.{IsBlock, AreBlocks, no_blocks, more_blocks, Encodes, EncodesAll, IsDocument, BlocksFaultAt, FirstFault, StaysAsItCame}
use Rattle.asn1_blocks.specs.Inner.BlockFault.{BlockFaultAt, at_header, at_leaf, at_item}
use Rattle.asn1_blocks.proofs.FaultyBlocks.{BlocksFaultAt-behind_blocks}
use Rattle.asn1_blocks.proofs.Leaves.{means_leaf, means_fault, LeafContents-or_fault, unknown_tag, group_tag_of, leaf_tag_of, TagKind-total}
use Rattle.asn1_blocks.proofs.OneReading.{IsBlock-encodes, IsBlock-not_empty, Encodes-single}
use Rattle.asn1_blocks.proofs.Faults.{IsBlock-unique, BlocksFaultAt-not_blocks, BlockFaultAt-not_block, tree_count-block, AreBlocks-single, length-contents_le}
use Rattle.asn1_blocks.proofs.HeaderCounts.{length-encoding}
use Rattle.asn1_headers.proofs.Fronts.{begins, begins_not, EncodingFront-total}

-- at the front stands a tree's encoding, at any offset, or the first block is at fault
pub data BlockFront (place : ℕ) (octets : List ℕ) : Type 0 where
  block_first : (x rest : List ℕ) → octets ≡ x ++ rest → ((offset : ℕ) → (t : Tree ℕ) × Encodes offset x t) →
      BlockFront place octets
  fault_first : (e : DecodeFault) (after : ℕ) → BlockFaultAt place octets e after → BlockFront place octets

-- after some blocks, the octets encode trees, at any offset, or all together are at fault
data BlocksOrFault (before octets : List ℕ) : Type 0 where
  all_blocks : ((offset : ℕ) → (ts : Trees ℕ) × EncodesAll offset octets ts) → BlocksOrFault before octets
  some_fault : (e : DecodeFault) (after : ℕ) → BlocksFaultAt (before ++ octets) e after → BlocksOrFault before octets

-- a class is Universal or another
pub Universal-or_other : (c : ASN1Class) → (c ≡ Universal) ⊎ (c ≢ Universal)
Universal-or_other Universal = inl refl
Universal-or_other Application = inr (λ e. cc)
Universal-or_other ContextSpecific = inr (λ e. cc)
Universal-or_other Private = inr (λ e. cc)

-- an encoding that stays as it came encodes a tree
Encodes-as_it_came :
    (o : ℕ) (x : List ℕ) (c : ASN1Class) (k : Bool) (n : ℕ) (contents : List ℕ) (h : ℕ) →
    Encoding x c k n contents h → StaysAsItCame c k n contents → (t : Tree ℕ) × Encodes o x t
Encodes-as_it_came o x c k n contents h f s =
    (unknown c k o n contents, (refl, h, f, s))

-- an encoding of another class encodes a tree, once its contents octets were tried as blocks
Encodes-not_universal : (x : List ℕ) (c : ASN1Class) (k : Bool) (n : ℕ) (contents : List ℕ) (h : ℕ) →
    Encoding x c k n contents h → c ≢ Universal
    → length contents < 2 ^ 64 → BlocksOrFault [] contents → (offset : ℕ) → (t : Tree ℕ) × Encodes offset x t
Encodes-not_universal x c false n contents h f ne small inner o =
    Encodes-as_it_came o x c false n contents h f (inr (ne, λ p. absurd (false≢true p.0)))
Encodes-not_universal x c true n contents h f ne small (some_fault e i r) o =
    Encodes-as_it_came o x c true n contents h f
    (inr (ne, λ p. BlocksFaultAt-not_blocks contents e i r small (AreBlocks-single contents p.1)))
Encodes-not_universal x c true n contents h f ne small (all_blocks g) o = go (g (o + h)).0 (g (o + h)).1
  where
    -- a constructed encoding of another class encodes a tree, whatever trees its contents octets encode
    go : (ts : Trees ℕ) → EncodesAll (o + h) contents ts → (t : Tree ℕ) × Encodes o x t
    go no_trees s = Encodes-as_it_came o x c true n contents h f
        (inr (ne, λ p. omega (arith, IsBlock-not_empty contents p.1, ap length s)))
    go (more_trees b no_trees) s =
        let item : Encodes (o + h) contents b = Encodes-single (o + h) contents b s in
        (explicit c o n b, (refl, ne, contents, h, f, item))
    go (more_trees b (more_trees d bs)) s =
        Encodes-as_it_came o x c true n contents h f
        (inr
        (ne, λ p. absurd (omega (arith, tree_count-block (o + h) contents (more_trees b (more_trees d bs)) s p.1))))

-- an encoding of class Universal encodes a tree or is at fault, once its contents octets were tried as blocks
BlockFront-universal : (place : ℕ) (octets x rest : List ℕ) (k : Bool) (n : ℕ) (contents : List ℕ) (h : ℕ)
    → Encoding x Universal k n contents h → octets ≡ x ++ rest
    → length contents < 2 ^ 64 → BlocksOrFault [] contents → BlockFront place octets
BlockFront-universal place octets x rest k n contents h f d small inner = elim (TagKind-total n) [
  | unknown_tag u ↦ block_first x rest d (λ o. Encodes-as_it_came o x Universal k n contents h f (inl (refl, u)))
  | leaf_tag_of u ↦ elim (LeafContents-or_fault n contents u small) [
    | means_leaf l t p ↦ block_first x rest d
        (λ o. (leaf o l, (refl, k, contents, h, subst (λ z. Encoding x Universal k z contents h) t f, p)))
    | means_fault e p ↦ fault_first e 0 (at_leaf x rest d f p)
  ]
  | group_tag_of g t ↦ elim inner [
    | all_blocks m ↦ block_first x rest d
        (λ o. (
          group o g (m (o + h)).0,
          (refl, k, contents, h, subst (λ z. Encoding x Universal k z contents h) t f, (m (o + h)).1),
        ))
    | some_fault e i r ↦ fault_first e (h + i)
        (at_item x rest d g (subst (λ z. Encoding x Universal k z contents h) t f) r)
  ]
]

-- blocks, and one block more behind them, are blocks
pub AreBlocks-append_last : (before x : List ℕ) → AreBlocks before → IsBlock x → AreBlocks (before ++ x)
AreBlocks-append_last before x no_blocks b = AreBlocks-single x b
AreBlocks-append_last before x (more_blocks {x = y} {rest = r} d a bs) b =
    more_blocks (ap (λ z. z ++ x) d ∙ append_assoc y r x) a (AreBlocks-append_last r x bs b)

mutual
  -- octets begin with a block or with a fault, by recursion on a bound of the length
  BlockFront-below : (fuel place : ℕ) (octets : List ℕ) → 2 * length octets < fuel → length octets < 2 ^ 64 →
      BlockFront place octets
  BlockFront-below zero place octets h small = absurd (omega (arith, h))
  BlockFront-below (suc fuel) place octets h small = elim (EncodingFront-total place octets) [
    | begins_not e p ↦ fault_first e 0 (at_header p)
    | begins x rest c k n contents size f d ↦
        let len = length-encoding x c k n contents size f in
        let shorter : 2 * length contents + 1 < fuel =
        omega (arith, h, ap length d, length-append x rest, len.0, len.1) in
        let fits : length contents < 2 ^ 64 =
        omega (arith, small, length-contents_le octets x rest c k n contents size f d) in
        let inner = BlocksOrFault-below fuel [] contents shorter fits no_blocks in
        elim (Universal-or_other c) [
          | inr ne ↦ block_first x rest d (Encodes-not_universal x c k n contents size f ne fits inner)
          | inl u ↦
              BlockFront-universal place octets x rest k n contents size
              (subst (λ z. Encoding x z k n contents size) u f) d fits inner
        ]
  ]

  -- octets behind blocks encode trees, or all together are at fault, by recursion on a bound of the length
  BlocksOrFault-below : (fuel : ℕ) (before octets : List ℕ) → 2 * length octets + 1 < fuel → length octets < 2 ^ 64 →
      AreBlocks before
      → BlocksOrFault before octets
  BlocksOrFault-below zero before octets h small bs = absurd (omega (arith, h))
  BlocksOrFault-below (suc fuel) before [] h small bs = all_blocks (λ o. (no_trees, refl))
  BlocksOrFault-below (suc fuel) before (b ∷ octets) h small bs =
      elim (BlockFront-below fuel (length before) (b ∷ octets) (omega (arith, h)) small) [
        | fault_first e i s ↦ some_fault e (length before + i)
            (BlocksFaultAt-behind_blocks (before ++ b ∷ octets) before (b ∷ octets) e i refl bs (omega arith) s)
        | block_first x rest d g ↦
            let block = IsBlock-encodes 0 x (g 0).0 (g 0).1 in
            let some = IsBlock-not_empty x block in
            let len : length (b ∷ octets) ≡ length x + length rest = ap length d ∙ length-append x rest in
            elim (BlocksOrFault-below fuel (before ++ x) rest (omega (arith, h, len, some)) (omega (arith, small, len))
            (AreBlocks-append_last before x bs block)) [
              | all_blocks m ↦ all_blocks (λ o. (
                more_trees (g o).0 (m (o + length x)).0,
                record { first = x; rest = rest; whole = d; item = (g o).1; items = (m (o + length x)).1 },
              ))
              | some_fault e i r ↦ some_fault e i
                  (subst (λ z. BlocksFaultAt z e i) (append_assoc before x rest ∙ ap (λ z. before ++ z) (sym d)) r)
            ]
      ]

-- octets begin with a block, or with a fault
pub BlockFront-total : (place : ℕ) (octets : List ℕ) → length octets < 2 ^ 64 → BlockFront place octets
BlockFront-total place octets small = BlockFront-below (suc (2 * length octets)) place octets (omega arith) small

-- a block encodes a tree, at any offset
pub Encodes-block : (octets : List ℕ) → length octets < 2 ^ 64 → IsBlock octets → (offset : ℕ) →
    (t : Tree ℕ) × Encodes offset octets t
Encodes-block octets small b o = elim (BlockFront-total 0 octets small) [
  | fault_first e i p ↦ absurd
      (BlockFaultAt-not_block 0 octets octets [] e i p (omega (arith, small)) (sym (append-nil octets)) b)
  | block_first x rest d g ↦
      let s =
      IsBlock-unique x octets rest [] (IsBlock-encodes o x (g o).0 (g o).1) b (sym d ∙ sym (append-nil octets)) in
      ((g o).0, subst (λ z. Encodes o z (g o).0) s.0 (g o).1)
]

-- all octets are a document or have a first fault
pub IsDocument-or_fault : (octets : List ℕ) → length octets < 2 ^ 64
    → ((bs : Trees ℕ) × IsDocument octets bs) ⊎ ((e : DecodeFault) × FirstFault octets e)
IsDocument-or_fault [] small = inr (empty_buffer, (0, inl (refl, refl, refl)))
IsDocument-or_fault (b ∷ octets) small =
    elim (BlocksOrFault-below (suc (suc (2 * length (b ∷ octets)))) [] (b ∷ octets) (omega arith) small no_blocks) [
      | all_blocks m ↦ inl ((m 0).0, record { some = omega arith; blocks = (m 0).1 })
      | some_fault e i r ↦ inr (e, (i, inr r))
    ]
