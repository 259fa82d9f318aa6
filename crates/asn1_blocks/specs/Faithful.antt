-- Which trees are read back as they are once they are written, and what is not written of those that were read.
use Rattle.std.specs.Prelude.{◌≢◌}
use Rattle.asn1_headers.specs.declared.header.ASN1Class.TheVariants.{Universal}
use Rattle.asn1_blocks.specs.Contents.{IsFaithfulLeaf, normalized_leaf}
use Rattle.asn1_blocks.specs.Grammar.{StaysAsItCame}
use Rattle.asn1_blocks.specs.Tree.{Tree, Trees, leaf, group, explicit, unknown, no_trees, more_trees, mapped, all_mapped}

-- the tree whose bit strings of no bits have no octets
abbrev pub normalized : {O : Type 0} → Tree O → Tree O
normalized b = mapped (λ o. o) normalized_leaf b

abbrev pub all_normalized : {O : Type 0} → Trees O → Trees O
all_normalized bs = all_mapped (λ o. o) normalized_leaf bs

abbrev mutual
  -- the tree is read back as it is, once it is written
  pub IsFaithful : {O : Type 0} → Tree O → Type 0
  IsFaithful (leaf o l) = IsFaithfulLeaf l
  IsFaithful (group o g bs) = AreFaithful bs
  IsFaithful (explicit class o tag b) = (class ≢ Universal) × IsFaithful b
  IsFaithful (unknown class constructed o tag contents) = StaysAsItCame class constructed tag contents

  pub AreFaithful : {O : Type 0} → Trees O → Type 0
  AreFaithful no_trees = Unit {0}
  AreFaithful (more_trees b bs) = IsFaithful b × AreFaithful bs
