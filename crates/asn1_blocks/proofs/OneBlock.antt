-- Octets that were read are a block exactly if one was found, for `faithful::is_block`.
use Rattle.std.proofs.Common.{◌≡◌, ℕ, ◌<◌, ◌^◌, List, [], ◌∷◌, length, inl, inr, sym, ap, ◌∙◌, arith}
use Rattle.asn1_blocks.specs.declared.block.ASN1Block.{ASN1Block}
use Rattle.asn1_headers.specs.Fault.{DecodeFault}
use Rattle.asn1_blocks.specs.Grammar.{IsBlock, IsDocument, FirstFault}
use Rattle.asn1_blocks.specs.View.{view, views}
use Rattle.asn1_blocks.proofs.BlockLists.{tree_count-views}
use Rattle.asn1_blocks.proofs.Faults.{tree_count-block, AreBlocks-single, BlocksFaultAt-not_blocks}
use Rattle.asn1_blocks.proofs.OneReading.{IsBlock-not_empty, IsBlock-encodes, Encodes-single}

-- octets of a document with one block are a block
pub IsBlock-one : (octets : List ℕ) (blocks : List ASN1Block) → IsDocument octets (views blocks) → length blocks ≡ 1 →
    IsBlock octets
IsBlock-one octets [] d n = absurd (omega (arith, n))
IsBlock-one octets (b ∷ []) d n = IsBlock-encodes 0 octets (view b) (Encodes-single 0 octets (view b) d.blocks)
IsBlock-one octets (b ∷ e ∷ blocks) d n = absurd (omega (arith, n))

-- a document whose octets are a block has one block
pub length-one_block : (octets : List ℕ) (blocks : List ASN1Block) → IsDocument octets (views blocks) → IsBlock octets →
    length blocks ≡ 1
length-one_block octets blocks d b = sym (tree_count-views blocks) ∙ tree_count-block 0 octets (views blocks) d.blocks b

-- octets with a first fault are no block
pub FirstFault-not_block : (octets : List ℕ) (e : DecodeFault) → length octets < 2 ^ 64 → FirstFault octets e →
    IsBlock octets → ⊥
FirstFault-not_block octets e small (o, inl p) b = omega (arith, IsBlock-not_empty octets b, ap length p.0)
FirstFault-not_block octets e small (o, inr p) b =
    BlocksFaultAt-not_blocks octets e o p small (AreBlocks-single octets b)
