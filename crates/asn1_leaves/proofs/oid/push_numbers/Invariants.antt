-- For `oid::push_numbers`: what each turn of its loop keeps and what grows less, so that it ends.
use Rattle.std.proofs.Common.{◌-◌, length}
use Rattle.asn1_leaves.proofs.PushedNumbers.{ArePushed}
use Rattle.asn1_leaves.proofs.oid.push_numbers.Given as goal

abbrev pub invariant-loop-index : goal.invariant-loop-index
invariant-loop-index g l =
    ArePushed g.T.FromBigUint.has g.T.FromBigUint.is_number l.fn.numbers.items l.numbers.items l.octets l.index

abbrev pub decreases-loop-index : goal.decreases-loop-index
decreases-loop-index g l = length l.octets - l.index
