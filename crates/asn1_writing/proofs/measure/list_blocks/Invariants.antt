-- For `measure::list_blocks`: what each turn of its loop keeps and what grows less, so that it ends.
use Rattle.std.proofs.Common.{◌≡◌, map}
use Rattle.asn1_writing.specs.Canonical.{first_write_fault}
use Rattle.asn1_blocks.specs.HeadersBegun.{all_blocks_in}
use Rattle.asn1_blocks.specs.Inner.TreeOrder.{ahead}
use Rattle.asn1_blocks.specs.View.{views}
use Rattle.asn1_writing.specs.Inner.WriteWalk.{measured_blocks, measured_sizes, own_size_of}
use Rattle.asn1_blocks.proofs.TreeOrders.{IsFoundBefore}
use Rattle.asn1_writing.proofs.measure.list_blocks.Given as goal

-- the blocks before those that are ahead, none of which has a fault
abbrev pub invariant-loop-walk : goal.invariant-loop-walk
invariant-loop-walk l = record {
  found : IsFoundBefore (measured_blocks l.list.items) (ahead l.walk) l.fn.blocks;
  own : measured_sizes l.list.items ≡ map own_size_of (measured_blocks l.list.items);
  fault : first_write_fault (views (ahead l.walk)) ≡ first_write_fault (views l.fn.blocks);
}

abbrev pub decreases-loop-walk : goal.decreases-loop-walk
decreases-loop-walk l = all_blocks_in (views (ahead l.walk))
