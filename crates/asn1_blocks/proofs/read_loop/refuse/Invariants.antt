-- For `read_loop::refuse`: what each turn of its loop keeps and what grows less, so that it ends.
use Rattle.std.proofs.Common.{ℕ, length}
use Rattle.asn1_headers.specs.Fault.{fault_of}
use Rattle.asn1_blocks.specs.Inner.ReaderSteps.{IsFaulty}
use Rattle.asn1_blocks.proofs.read_loop.refuse.Given as goal

-- the fault has gone out of the frames that were dropped
abbrev pub invariant-loop-parent : goal.invariant-loop-parent
invariant-loop-parent g l = record {
  faulty : (n most : ℕ) → IsFaulty g.B.Builder.holds l.octets l.fn.reader (fault_of l.fn.e) n most
      → IsFaulty g.B.Builder.holds l.octets l.reader (fault_of l.e) n most;
}

abbrev pub decreases-loop-parent : goal.decreases-loop-parent
decreases-loop-parent g l = length l.reader.outer.items
