-- For `lists::write_all`: what each turn of its loop keeps.
use Rattle.std.proofs.Common.{◌≡◌, map, take}
use Rattle.asn1_types.proofs.ListTrees.{shape_of}
use Rattle.asn1_types.proofs.lists.write_all.Given as goal

abbrev pub invariant-loop-value : goal.invariant-loop-value
invariant-loop-value g l = map shape_of l.blocks.items ≡ map g.T.Asn1Type.tree (take l.value-index l.values)
