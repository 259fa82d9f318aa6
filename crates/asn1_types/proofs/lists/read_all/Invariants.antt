-- For `lists::read_all`: what each turn of its loop keeps.
use Rattle.std.proofs.Common.{◌≡◌, map, take}
use Rattle.asn1_types.proofs.ListTrees.{shape_of}
use Rattle.asn1_types.proofs.lists.read_all.Given as goal

abbrev pub invariant-loop-block : goal.invariant-loop-block
invariant-loop-block g l = map shape_of (take l.block-index l.blocks) ≡ map g.T.Asn1Type.tree l.values.items
