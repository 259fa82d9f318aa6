-- Steps of copying trees from the last block to the first, for `block::copy::copy`, `contents::copy_over` and
-- `postponed::group_block`.
use Rattle.std.proofs.Common.{◌≡◌, ◌≤◌, List, [], ◌∷◌, ◌++◌, length, length-append, reverse, refl, sym, ap, ◌∙◌, arith, rules, ℕ, Box, Vec, Global}
use Rattle.std.proofs.lemmas.List.{length-reverse, reverse-append, reverse-reverse}
use Rattle.asn1_blocks.specs.declared.block.ASN1Block.{ASN1Block, Sequence, Set, Explicit, the_lemmas}
use Rattle.asn1_blocks.specs.declared.block.GroupKind.{GroupKind}
use Rattle.asn1_headers.specs.declared.header.ASN1Class.{ASN1Class}
use Rattle.asn1_blocks.specs.Tree.{group, explicit, more_trees}
use Rattle.asn1_blocks.specs.Inner.TreeOrder.{IsNextTree, inside}
use Rattle.asn1_blocks.specs.View.{view, views}
use Rattle.asn1_blocks.proofs.BlockLists.{tree_count, tree_count-views}

-- equal trees of two lists in two parts, of which the first are as long, are equal in each part
views-append_injective : (xs ys r s : List ASN1Block) → length xs ≡ length ys → views (xs ++ r) ≡ views (ys ++ s)
    → (views xs ≡ views ys) × (views r ≡ views s)
views-append_injective [] [] r s n e = (refl, e)
views-append_injective [] (y ∷ ys) r s n e = absurd (omega (arith, n))
views-append_injective (x ∷ xs) [] r s n e = absurd (omega (arith, n))
views-append_injective (x ∷ xs) (y ∷ ys) r s n e =
    let f : views (xs ++ r) ≡ views (ys ++ s) = cc in
    let g : view x ≡ view y = cc in
    let h = views-append_injective xs ys r s (omega (arith, n)) f in
    let k = h.0 in
    (cc, h.1)

-- the copies that are taken are those of what the block holds, and the copy of the block takes their place
pub record IsTaken (b : ASN1Block) (left taken kept : List ASN1Block) : Type 0 where
  pub held : views taken ≡ inside (view b)
  pub copied : (r : ASN1Block) → view r ≡ view b → views (reverse (kept ++ r ∷ [])) ≡ views left

-- as many of the last copies as a block holds are copies of what it holds
pub IsTaken-held : (b : ASN1Block) (left after done taken kept : List ASN1Block) → IsNextTree b left after →
    views (reverse done) ≡ views after
    → length taken ≡ tree_count (inside (view b)) → done ≡ kept ++ reverse taken → IsTaken b left taken kept
IsTaken-held b left after done taken kept n s k t =
    let v : reverse done ≡ taken ++ reverse kept = ap reverse t
    ∙ (reverse-append kept (reverse taken) ∙ ap (λ z. z ++ reverse kept) (reverse-reverse taken)) in
    let m : length taken ≡ length n.held = k ∙ (sym (ap tree_count n.holds) ∙ tree_count-views n.held) in
    let z = views-append_injective taken n.held (reverse kept) n.rest m (sym (ap views v) ∙ (s ∙ ap views n.then)) in
    record {
      held = z.0 ∙ n.holds;
      copied = λ r e. ap views (reverse-append kept (r ∷ []))
          ∙ (ap (λ a. more_trees a (views (reverse kept))) e
          ∙ (ap (λ a. more_trees (view b) a) z.1 ∙ sym (ap views n.first)));
    }

-- at least as many copies are made as the block holds
pub tree_count-inside_le : (b : ASN1Block) (left after done : List ASN1Block) → IsNextTree b left after →
    views (reverse done) ≡ views after
    → tree_count (inside (view b)) ≤ length done
tree_count-inside_le b left after done n s =
    omega (
      arith,
      ap tree_count (s ∙ ap views n.then),
      tree_count-views (reverse done),
      tree_count-views (n.held ++ n.rest),
      length-append n.held n.rest,
      ap tree_count n.holds,
      tree_count-views n.held,
      length-reverse done,
    )

-- the tree of an explicit block is an explicit tree around the tree of the block that it holds
pub view-Explicit : (c : ASN1Class) (o n : ℕ) (b : Box ASN1Block Global) →
    view (Explicit c o n b) ≡ explicit c o n (view b.value)
view-Explicit c o n b = search (rules, the_lemmas)

-- an explicit block around a copy of the block that another one holds is a copy of that one
pub view-Explicit_copy : (c : ASN1Class) (o n : ℕ) (held made : Box ASN1Block Global) (copy : ASN1Block) →
    made.value ≡ copy
    → views (copy ∷ []) ≡ inside (view (Explicit c o n held)) → view (Explicit c o n made) ≡ view (Explicit c o n held)
view-Explicit_copy c o n held made copy is e =
    let same : views (copy ∷ []) ≡ views (held.value ∷ []) = e ∙ ap inside (view-Explicit c o n held) in
    let one : view copy ≡ view held.value = cc in
    view-Explicit c o n made ∙ (ap (explicit c o n) (ap view is ∙ one) ∙ sym (view-Explicit c o n held))

-- the tree of a SEQUENCE is a group of the trees of the blocks that it holds
pub view-Sequence : (o : ℕ) (v : Vec ASN1Block Global) →
    view (Sequence o v) ≡ group o GroupKind.Sequence (views v.items)
view-Sequence o v = search (rules, the_lemmas)

-- the tree of a SET is a group of the trees of the blocks that it holds
pub view-Set : (o : ℕ) (v : Vec ASN1Block Global) → view (Set o v) ≡ group o GroupKind.Set (views v.items)
view-Set o v = search (rules, the_lemmas)

-- copies of what a SEQUENCE holds make its copy
pub view-Sequence_copies : (o : ℕ) (held made : Vec ASN1Block Global) →
    views made.items ≡ inside (view (Sequence o held))
    → view (Sequence o made) ≡ view (Sequence o held)
view-Sequence_copies o held made e =
    view-Sequence o made ∙ (ap (group o GroupKind.Sequence) (e ∙ ap inside (view-Sequence o held))
    ∙ sym (view-Sequence o held))

-- copies of what a SET holds make its copy
pub view-Set_copies : (o : ℕ) (held made : Vec ASN1Block Global) → views made.items ≡ inside (view (Set o held)) →
    view (Set o made) ≡ view (Set o held)
view-Set_copies o held made e =
    view-Set o made ∙ (ap (group o GroupKind.Set) (e ∙ ap inside (view-Set o held)) ∙ sym (view-Set o held))
