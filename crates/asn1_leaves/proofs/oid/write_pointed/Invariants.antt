-- For `oid::write_pointed`: what each turn of its loop keeps.
use Rattle.std.proofs.Common.{take}
use Rattle.std.specs.Fmt.{HasWritten, IsPlainFormatter}
use Rattle.std.specs.List.{flat_map}
use Rattle.asn1_leaves.specs.Inner.IdentifierForms.{pointed}
use Rattle.asn1_leaves.proofs.oid.write_pointed.Given as goal

abbrev pub invariant-loop-number : goal.invariant-loop-number
invariant-loop-number g l =
    IsPlainFormatter l.initial.f →
    HasWritten g.W.Write.write_str_gives l.initial.f (flat_map pointed (take l.number-index l.numbers)) l.f
