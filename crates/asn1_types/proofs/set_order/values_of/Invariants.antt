-- For `set_order::values_of`: what each turn of its loop keeps.
use Rattle.std.proofs.Common.{◌≡◌, map}
use Rattle.asn1_types.specs.Inner.Encodings.{value_of}
use Rattle.asn1_types.proofs.set_order.values_of.Given as goal

abbrev pub invariant-loop-item : goal.invariant-loop-item
invariant-loop-item g l = l.values.items ≡ map value_of l.yielded
