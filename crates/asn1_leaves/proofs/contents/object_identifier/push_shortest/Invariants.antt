-- For `contents::object_identifier::push_shortest`: what each turn of its loop keeps.
use Rattle.std.proofs.Common.{take}
use Rattle.std.specs.List.{flat_map}
use Rattle.asn1_numbers.specs.Base128.{shortest_base128}
use Rattle.asn1_leaves.proofs.contents.object_identifier.push_shortest.Given as goal

abbrev pub invariant-loop-component : goal.invariant-loop-component
invariant-loop-component g l =
    g.S.Sink.pushes l.fn.out (flat_map shortest_base128 (take l.component-index l.components)) l.out
