-- For `measure::add_sizes`: what each turn of its loop keeps and what grows less, so that it ends.
use Rattle.std.proofs.Common.{◌≡◌, ◌++◌, ◌≤◌, List, length, map, take, drop}
use Rattle.asn1_blocks.specs.declared.block.ASN1Block.{ASN1Block}
use Rattle.asn1_blocks.specs.Inner.TreeOrder.{IsInTreeOrder}
use Rattle.asn1_writing.specs.Inner.WriteWalk.{contents_size_of, measured_blocks, measured_sizes, own_size_of}
use Rattle.asn1_writing.proofs.WriteSteps.{sizes_back}
use Rattle.asn1_writing.proofs.measure.add_sizes.Given as goal

-- the sizes from the place on are whole, and those of blocks that are not yet inside another are kept
abbrev pub invariant-loop-i : goal.invariant-loop-i
invariant-loop-i l = record {
  within : l.i ≤ length l.list;
  blocks : measured_blocks l.list ≡ measured_blocks l.fn.list;
  contents : measured_sizes l.list ≡ map own_size_of (take l.i (measured_blocks l.fn.list))
      ++ map contents_size_of (drop l.i (measured_blocks l.fn.list));
  sizes : (left : List ASN1Block) → IsInTreeOrder (drop l.i (measured_blocks l.fn.list)) left →
      l.sizes.items ≡ sizes_back left;
}

abbrev pub decreases-loop-i : goal.decreases-loop-i
decreases-loop-i l = l.i
