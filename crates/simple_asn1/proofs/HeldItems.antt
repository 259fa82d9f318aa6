-- A tree holds blocks in one way, and one made of items holds these, for `items::items_of` and `build::implicit`.
use Rattle.std.proofs.Common.{◌≡◌, ◌≢◌, ℕ, suc, ◌+◌, ◌<◌, ◌^◌, true, false, List, [], ◌∷◌, Option, Some, None, Result, Ok, Err, length, refl, sym, ap, ◌∙◌, subst, arith, append-nil, inr}
use Rattle.std.specs.Prelude.{IfOk, IsSomeAnd, MatchOption}
use Rattle.std.specs.declared.alloc.AllocError.{AllocError}
use Rattle.asn1_headers.specs.declared.header.ASN1Class.{ASN1Class}
use Rattle.asn1_headers.specs.declared.header.ASN1Class.TheVariants.{Universal}
use Rattle.asn1_numbers.specs.Octets.{FitInSlice}
use Rattle.asn1_blocks.specs.declared.block.ASN1Block.{ASN1Block}
use Rattle.asn1_blocks.specs.Faithful.{IsFaithful, AreFaithful}
use Rattle.asn1_blocks.specs.Grammar.{IsBlock}
use Rattle.asn1_blocks.specs.Tree.{Tree, Trees, explicit, group, leaf, more_trees, no_trees, shapes, unknown}
use Rattle.asn1_blocks.specs.View.{view, views}
use Rattle.asn1_blocks.proofs.BlockLists.{tree_count, tree_count-views}
use Rattle.asn1_blocks.proofs.Faults.{tree_count-block}
use Rattle.asn1_blocks.proofs.OneReading.{EncodesAll-unique}
use Rattle.asn1_headers.specs.declared.error.ASN1EncodeErr.{ASN1EncodeErr}
use Rattle.asn1_writing.specs.Canonical.{all_canonical, canonical, first_write_fault, shortest_encoding, write_fault}
use Rattle.simple_asn1.specs.HeldBlocks.{HoldsBlocksOf, HoldsNothing, items_trees}
use Rattle.simple_asn1.specs.declared.items.Items.{Items}
use Rattle.asn1_writing.proofs.Placed.{EncodesAll-all_canonical, all_placed, shapes-all_placed}
use Rattle.asn1_writing.proofs.WriteSteps.{first_of-none}

-- a tree holds blocks in one way
pub HoldsBlocksOf-unique : (t : Tree ℕ) (xs ys : Trees ℕ) → HoldsBlocksOf t xs → HoldsBlocksOf t ys → xs ≡ ys
HoldsBlocksOf-unique (leaf o l) xs ys h k = absurd h
HoldsBlocksOf-unique (group o g items) xs ys h k = h ∙ sym k
HoldsBlocksOf-unique (explicit class o tag b) xs ys h k = h ∙ sym k
HoldsBlocksOf-unique (unknown class true o tag contents) xs ys h k = EncodesAll-unique 0 contents xs ys h k
HoldsBlocksOf-unique (unknown class false o tag contents) xs ys h k = absurd h

-- of a tree that holds blocks these blocks are found
pub IsSomeAnd-held_items :
    (t : Tree ℕ) (r : Result (Option Items) AllocError) →
    IfOk r (λ found. MatchOption found (HoldsNothing t) (λ items. HoldsBlocksOf t (items_trees items))) →
    (bs : Trees ℕ) → HoldsBlocksOf t bs → IfOk r (λ found. IsSomeAnd found (λ items. items_trees items ≡ bs))
IsSomeAnd-held_items t (Ok (Some items)) h bs k = HoldsBlocksOf-unique t (items_trees items) bs h k
IsSomeAnd-held_items t (Ok None) h bs k = absurd (h bs k)
IsSomeAnd-held_items t (Err e) h bs k = tt

-- Of a block that is made of items: how it is written, and what it holds.

-- trees placed at offsets are as many as before
tree_count-all_placed : (o : ℕ) (bs : Trees ℕ) → tree_count (all_placed o bs) ≡ tree_count bs
tree_count-all_placed o no_trees = refl
tree_count-all_placed o (more_trees b bs) = ap suc (tree_count-all_placed (o + length (canonical b)) bs)

-- how the tree is written that is made of items, and what it holds
pub record IsMadeOf (class : ASN1Class) (tag : ℕ) (items : Trees ℕ) (t : Tree ℕ) : Type 0 where
  pub encoded : canonical t ≡ shortest_encoding class true tag (all_canonical items)
  pub writable : write_fault t ≡ first_write_fault items
  pub items_back : AreFaithful items → (bs : Trees ℕ) × HoldsBlocksOf t bs × (shapes bs ≡ shapes items)
  pub faithful : class ≢ Universal → AreFaithful items → IsFaithful t

-- around one item an explicit block is made
pub IsMadeOf-one : (class : ASN1Class) (tag : ℕ) (item t : Tree ℕ) → t ≡ explicit class 0 tag item
    → IsMadeOf class tag (more_trees item no_trees) t
IsMadeOf-one class tag item t e = subst (IsMadeOf class tag (more_trees item no_trees)) (sym e) record {
  encoded = ap (shortest_encoding class true tag) (sym (append-nil (canonical item)));
  writable = sym (first_of-none (write_fault item));
  items_back = λ f. (more_trees item no_trees, refl, refl);
  faithful = λ ne f. (ne, f.0);
}

-- around any number of items but one an encoding that stays as it came is made
pub IsMadeOf-several :
    (class : ASN1Class) (tag : ℕ) (xs : List ASN1Block) (t : Tree ℕ) → length xs ≢ 1 →
    t ≡ unknown class true 0 tag (all_canonical (views xs)) → first_write_fault (views xs) ≡ None →
    length (all_canonical (views xs)) < 2 ^ 64 → IsMadeOf class tag (views xs) t
IsMadeOf-several class tag xs t several e writable small = subst (IsMadeOf class tag (views xs)) (sym e) record {
  encoded = refl;
  writable = sym writable;
  items_back =
      λ f. (all_placed 0 (views xs), EncodesAll-all_canonical 0 (views xs) small f, shapes-all_placed 0 (views xs));
  faithful = λ ne f.
      let no_block : IsBlock (all_canonical (views xs)) → ⊥ = λ b.
      several
      (sym (tree_count-all_placed 0 (views xs) ∙ tree_count-views xs)
      ∙ tree_count-block 0 (all_canonical (views xs)) (all_placed 0 (views xs))
      (EncodesAll-all_canonical 0 (views xs) small f)
      b) in
      inr (ne, λ p. no_block p.1);
}

-- a tree that is made of one item, or of any other number of items, is made of these items
IsMadeOf-items :
    (class : ASN1Class) (tag : ℕ) (xs : List ASN1Block) (r : Result ASN1Block ASN1EncodeErr) →
    ((item : ASN1Block) → xs ≡ item ∷ [] → IfOk r (λ b. view b ≡ explicit class 0 tag (view item))) →
    (length xs ≢ 1 → IfOk r (λ b. (view b ≡ unknown class true 0 tag (all_canonical (views xs)))
    × (first_write_fault (views xs) ≡ None) × FitInSlice (all_canonical (views xs)))) →
    IfOk r (λ b. IsMadeOf class tag (views xs) (view b))
IsMadeOf-items class tag xs (Err e) one other = tt
IsMadeOf-items class tag [] (Ok b) one other =
    let none : length {A = ASN1Block} [] ≢ 1 = λ e. omega (arith, e) in
    let h = other none in
    IsMadeOf-several class tag [] (view b) none h.0 h.1 h.2
IsMadeOf-items class tag (x ∷ []) (Ok b) one other = IsMadeOf-one class tag (view x) (view b) (one x refl)
IsMadeOf-items class tag (x ∷ y ∷ xs) (Ok b) one other =
    let more : length (x ∷ y ∷ xs) ≢ 1 = λ e. omega (arith, e) in
    let h = other more in
    IsMadeOf-several class tag (x ∷ y ∷ xs) (view b) more h.0 h.1 h.2

-- what is made of items that are held is made of these items
pub IsMadeOf-held :
    (class : ASN1Class) (tag number : ℕ) (xs held : List ASN1Block) (r : Result ASN1Block ASN1EncodeErr) → held ≡ xs →
    number ≡ tag →
    ((item : ASN1Block) → held ≡ item ∷ [] → IfOk r (λ b. view b ≡ explicit class 0 number (view item))) →
    (length held ≢ 1 → IfOk r (λ b. (view b ≡ unknown class true 0 number (all_canonical (views held)))
    × (first_write_fault (views held) ≡ None) × FitInSlice (all_canonical (views held)))) →
    IfOk r (λ b. IsMadeOf class tag (views xs) (view b))
IsMadeOf-held class tag number xs held r e f one other =
    subst (λ z. IfOk r (λ b. IsMadeOf class z (views xs) (view b))) f
    (subst (λ zs. IfOk r (λ b. IsMadeOf class number (views zs) (view b))) e
    (IsMadeOf-items class number held r one other))
