-- For `oid::numbers_of`: what each turn of its loop keeps.
use Rattle.std.proofs.Common.{take}
use Rattle.asn1_numbers.specs.FittingNumbers.{AreNumbers}
use Rattle.asn1_leaves.proofs.oid.numbers_of.Given as goal

abbrev pub invariant-loop-component : goal.invariant-loop-component
invariant-loop-component g l =
    AreNumbers g.T.FromBigUint.has g.T.FromBigUint.is_number l.numbers.items (take l.component-index l.components)
