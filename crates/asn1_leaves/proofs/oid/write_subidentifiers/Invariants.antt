-- For `oid::write_subidentifiers`: what each turn of its loop keeps and what grows less, so that it ends.
use Rattle.std.proofs.Common.{◌-◌, length}
use Rattle.asn1_leaves.proofs.DottedNumbers.{AreWritten}
use Rattle.asn1_leaves.proofs.oid.write_subidentifiers.Given as goal

abbrev pub invariant-loop-index : goal.invariant-loop-index
invariant-loop-index g l = AreWritten g.W.Write.write_str_gives l.initial.f l.f l.octets l.index

abbrev pub decreases-loop-index : goal.decreases-loop-index
decreases-loop-index g l = length l.octets - l.index
