-- What is written of a tree, and whether it is faithful, does not hang on its offsets, for `write::to_der`,
-- `convert::round_trip` and the laws.
use Rattle.std.proofs.Common.{◌≡◌, ◌≢◌, ◌++◌, true, false, refl, sym, ap, ◌∙◌}
use Rattle.asn1_headers.specs.declared.header.ASN1Class.TheVariants.{Universal}
use Rattle.asn1_writing.specs.Canonical.{all_canonical, canonical, first_of, first_write_fault, shortest_encoding, write_fault}
use Rattle.asn1_blocks.specs.Contents.{group_tag, leaf_contents, leaf_tag}
use Rattle.asn1_blocks.specs.Faithful.{IsFaithful, AreFaithful, all_normalized}
use Rattle.asn1_blocks.specs.Tree.{Leaf, Tree, Trees, leaf, group, explicit, unknown, no_trees, more_trees, mapped, all_mapped, shape, shapes}
use Rattle.asn1_blocks.proofs.Leaves.{leaf_contents-normalized_leaf, leaf_tag-normalized_leaf}

module _ {O P : Type 0} (f : O → P) (h : Leaf → Leaf) (same_tag : (l : Leaf) → leaf_tag (h l) ≡ leaf_tag l)
    (same_contents : (l : Leaf) → leaf_contents (h l) ≡ leaf_contents l) where
  mutual
    -- a tree whose leaves keep their tags and contents octets is written as before
    canonical-mapped : (b : Tree O) → canonical (mapped f h b) ≡ canonical b
    canonical-mapped (leaf o l) =
        ap (λ n. shortest_encoding Universal false n (leaf_contents (h l))) (same_tag l) ∙
        ap (shortest_encoding Universal false (leaf_tag l)) (same_contents l)
    canonical-mapped (group o g bs) = ap (shortest_encoding Universal true (group_tag g)) (all_canonical-all_mapped bs)
    canonical-mapped (explicit c o n b) = ap (shortest_encoding c true n) (canonical-mapped b)
    canonical-mapped (unknown c k o n v) = refl

    -- trees whose leaves keep their tags and contents octets are written as before
    all_canonical-all_mapped : (bs : Trees O) → all_canonical (all_mapped f h bs) ≡ all_canonical bs
    all_canonical-all_mapped no_trees = refl
    all_canonical-all_mapped (more_trees b bs) =
        ap (λ z. z ++ all_canonical (all_mapped f h bs)) (canonical-mapped b)
        ∙ ap (λ z. canonical b ++ z) (all_canonical-all_mapped bs)

-- what is written of a tree does not depend on its offsets
pub canonical-shape : {O : Type 0} (b : Tree O) → canonical (shape b) ≡ canonical b
canonical-shape b = canonical-mapped (λ _. tt) (λ l. l) (λ l. refl) (λ l. refl) b

-- what is written of trees does not depend on their offsets
pub all_canonical-shapes : {O : Type 0} (bs : Trees O) → all_canonical (shapes bs) ≡ all_canonical bs
all_canonical-shapes bs = all_canonical-all_mapped (λ _. tt) (λ l. l) (λ l. refl) (λ l. refl) bs

-- octets of bit strings of no bits are not written
pub all_canonical-all_normalized : {O : Type 0} (bs : Trees O) → all_canonical (all_normalized bs) ≡ all_canonical bs
all_canonical-all_normalized bs =
    all_canonical-all_mapped (λ o. o) _ leaf_tag-normalized_leaf leaf_contents-normalized_leaf bs

mutual
  -- the write fault of a tree does not depend on its offsets
  pub write_fault-shape : {O : Type 0} (b : Tree O) → write_fault (shape b) ≡ write_fault b
  write_fault-shape (leaf o l) = refl
  write_fault-shape (group o g bs) = first_write_fault-shapes bs
  write_fault-shape (explicit c o n b) = write_fault-shape b
  write_fault-shape (unknown c k o n v) = refl

  -- the first write fault of trees does not depend on their offsets
  pub first_write_fault-shapes : {O : Type 0} (bs : Trees O) → first_write_fault (shapes bs) ≡ first_write_fault bs
  first_write_fault-shapes no_trees = refl
  first_write_fault-shapes (more_trees b bs) =
      ap (λ z. first_of z (first_write_fault (shapes bs))) (write_fault-shape b)
      ∙ ap (first_of (write_fault b)) (first_write_fault-shapes bs)

mutual
  -- whether a tree is faithful does not depend on its offsets
  pub IsFaithful-shape : {O : Type 0} (b : Tree O) → IsFaithful (shape b) ≡ IsFaithful b
  IsFaithful-shape (leaf o l) = refl
  IsFaithful-shape (group o g bs) = AreFaithful-shapes bs
  IsFaithful-shape (explicit c o n b) = ap (λ z. (c ≢ Universal) × z) (IsFaithful-shape b)
  IsFaithful-shape (unknown c k o n v) = refl

  -- whether trees are faithful does not depend on their offsets
  AreFaithful-shapes : {O : Type 0} (bs : Trees O) → AreFaithful (shapes bs) ≡ AreFaithful bs
  AreFaithful-shapes no_trees = refl
  AreFaithful-shapes (more_trees b bs) =
      ap (λ z. z × AreFaithful (shapes bs)) (IsFaithful-shape b) ∙ ap (λ z. IsFaithful b × z) (AreFaithful-shapes bs)

-- trees of one shape are written as the same octets, and have the same write fault
pub canonical-same_shape : {O P : Type 0} (a : Tree O) (b : Tree P) → shape a ≡ shape b →
    (canonical a ≡ canonical b) × (write_fault a ≡ write_fault b)
canonical-same_shape a b e = (
  sym (canonical-shape a) ∙ (ap canonical e ∙ canonical-shape b),
  sym (write_fault-shape a) ∙ (ap write_fault e ∙ write_fault-shape b),
)
