-- For `contents::object_identifier::subidentifiers_size`: what each turn of its loop keeps.
use Rattle.std.proofs.Common.{◌≡◌, ◌+◌, ◌<◌, ◌^◌, length, take}
use Rattle.std.specs.List.{flat_map}
use Rattle.asn1_numbers.specs.Base128.{shortest_base128}
use Rattle.asn1_leaves.proofs.contents.object_identifier.subidentifiers_size.Given as goal

-- the octets of the subidentifiers so far, and one more
abbrev pub invariant-loop-component : goal.invariant-loop-component
invariant-loop-component l =
    record {
      so_far : l.size
          ≡ 1 + length (flat_map shortest_base128 (take l.component-index l.components));
      fits : l.size < 2 ^ 64;
    }
