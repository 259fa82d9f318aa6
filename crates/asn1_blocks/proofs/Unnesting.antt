-- How many blocks are left where a block is taken apart, for `block::discard::discard` and `block::same`.
use Rattle.std.proofs.Common.{◌≡◌, ◌+◌, ◌<◌, ℕ, List, [], ◌∷◌, ◌++◌, arith}
use Rattle.asn1_blocks.specs.declared.block.ASN1Block.{ASN1Block}
use Rattle.asn1_blocks.specs.Tree.{Tree, leaf, group, explicit, unknown}
use Rattle.asn1_blocks.specs.HeadersBegun.{blocks_in, all_blocks_in}
use Rattle.asn1_blocks.specs.View.{view, views}

-- a block at the end of a list adds as many blocks, at all depths, as are in it
pub all_blocks_in-append_last : (bs : List ASN1Block) (b : ASN1Block) →
    all_blocks_in (views (bs ++ b ∷ [])) ≡ all_blocks_in (views bs) + blocks_in (view b)
all_blocks_in-append_last [] b = omega arith
all_blocks_in-append_last (a ∷ bs) b = omega (arith, all_blocks_in-append_last bs b)

-- a tree has at least one block
pub blocks_in-some : (b : Tree ℕ) → 0 < blocks_in b
blocks_in-some (leaf o l) = omega arith
blocks_in-some (group o g bs) = omega arith
blocks_in-some (explicit c o n b) = omega arith
blocks_in-some (unknown c k o n v) = omega arith
