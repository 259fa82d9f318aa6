-- Going over all blocks of a tree in a loop.
use Rattle.std.specs.Prelude.{◌≢◌, ℕ}
use Rattle.asn1_headers.specs.declared.header.ASN1Class.TheVariants.{Universal}
use Rattle.asn1_blocks.specs.Tree.{Tree, leaf, group, explicit, unknown}
use Rattle.asn1_blocks.specs.Grammar.{StaysAsItCame}
use Rattle.asn1_blocks.specs.Contents.{IsFaithfulLeaf}

-- the tree is faithful if it is a leaf
abbrev pub IsFaithfulIfLeaf : Tree ℕ → Type 0
IsFaithfulIfLeaf (leaf o l) = IsFaithfulLeaf l
IsFaithfulIfLeaf (group o g bs) = Unit {0}
IsFaithfulIfLeaf (explicit class o tag b) = Unit {0}
IsFaithfulIfLeaf (unknown class constructed o tag contents) = Unit {0}

-- the tree is faithful as far as those inside it are
abbrev pub IsFaithfulAlone : Tree ℕ → Type 0
IsFaithfulAlone (leaf o l) = IsFaithfulLeaf l
IsFaithfulAlone (group o g bs) = Unit {0}
IsFaithfulAlone (explicit class o tag b) = class ≢ Universal
IsFaithfulAlone (unknown class constructed o tag contents) = StaysAsItCame class constructed tag contents
