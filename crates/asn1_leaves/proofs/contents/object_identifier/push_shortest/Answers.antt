-- For `contents::object_identifier::push_shortest`: `push_base128` may be called.
use Rattle.std.proofs.Common.{arith, ℕ, length, take, ap}
use Rattle.std.specs.List.{flat_map}
use Rattle.std.proofs.lemmas.List.Folds.{length-flat_map-take}
use Rattle.asn1_numbers.specs.Base128.{shortest_base128}
use Rattle.asn1_leaves.proofs.contents.object_identifier.push_shortest.Goals as goal

pub push_base128-requires : goal.push_base128-requires
push_base128-requires g c =
    let components = c.args.components.now in
    let i = c.loop-component.component-index in
    let component = c.component-item.result in
    let before = flat_map shortest_base128 (take i components) in
    let fits = length-flat_map-take shortest_base128 components i component c.loop-component-test.true in
    let same = ap (λ (n : ℕ). length (shortest_base128 n)) c.component-item.is in
    omega (
      arith,
      c.requires,
      fits,
      same,
      g.S.Sink.room_after c.args.out.now c.loop-component.out before c.loop-component.invariant,
    )
