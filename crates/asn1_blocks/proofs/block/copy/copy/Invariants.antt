-- For `block::copy::copy`: what each turn of its loop keeps and what grows less, so that it ends.
use Rattle.std.proofs.Common.{◌≡◌, ◌≤◌, List, length, map, drop, reverse}
use Rattle.asn1_blocks.specs.declared.block.ASN1Block.{ASN1Block}
use Rattle.asn1_blocks.specs.Inner.TreeOrder.{IsInTreeOrder}
use Rattle.asn1_blocks.specs.View.{views}
use Rattle.asn1_blocks.proofs.block.copy.copy.Given as goal

-- the copies are those of the trees of what is done
abbrev pub invariant-loop-i : goal.invariant-loop-i
invariant-loop-i l = record {
  within : l.i ≤ length l.order.items;
  copied : (left : List ASN1Block) → IsInTreeOrder (drop l.i (map (λ b. b.now) l.order.items)) left →
      views (reverse l.copies) ≡ views left;
}

abbrev pub decreases-loop-i : goal.decreases-loop-i
decreases-loop-i l = l.i
