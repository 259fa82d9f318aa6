-- For `header_walk::refuse`: what each turn of its loop keeps and what grows less, so that it ends.
use Rattle.std.proofs.Common.{length}
use Rattle.asn1_headers.specs.Fault.{fault_of}
use Rattle.asn1_blocks.specs.Inner.ReaderSteps.{work_left}
use Rattle.asn1_outline.specs.Walking.{IsAtFault}
use Rattle.asn1_outline.proofs.header_walk.refuse.Given as goal

-- the fault has gone out of the frames that were dropped
abbrev pub invariant-loop-parent : goal.invariant-loop-parent
invariant-loop-parent l = record {
  faulty : IsAtFault l._octets l.reader (fault_of l.error) l.reader.index
      (work_left (length l._octets) l.fn.reader.index l.fn.reader.outer.items);
}

abbrev pub decreases-loop-parent : goal.decreases-loop-parent
decreases-loop-parent l = length l.reader.outer.items
