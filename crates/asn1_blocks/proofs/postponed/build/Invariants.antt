-- For `postponed::build`: what each turn of its loop keeps.
use Rattle.std.proofs.Common.{◌≡◌, [], map}
use Rattle.asn1_blocks.specs.View.{view}
use Rattle.asn1_blocks.specs.Inner.Postponed.{trees_after_all}
use Rattle.asn1_blocks.proofs.postponed.build.Given as goal

abbrev pub invariant-loop-one : goal.invariant-loop-one
invariant-loop-one l = map view l.blocks ≡ trees_after_all l.octets l.yielded []
