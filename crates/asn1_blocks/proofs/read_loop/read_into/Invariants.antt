-- For `read_loop::read_into`: what each turn of its loop keeps and what grows less, so that it ends.
use Rattle.std.proofs.Common.{◌≡◌, ℕ, ◌+◌, length}
use Rattle.asn1_blocks.specs.Inner.ReaderSteps.{IsReading, work_left}
use Rattle.asn1_blocks.proofs.read_loop.read_into.Given as goal

abbrev pub invariant-turns : goal.invariant-turns
invariant-turns g l = (n : ℕ) × IsReading g.B.Builder.holds l.octets l.reader n × (l.count ≡ l.fn.count + n)

abbrev pub decreases-turns : goal.decreases-turns
decreases-turns g l = work_left (length l.octets) l.reader.index l.reader.outer.items
