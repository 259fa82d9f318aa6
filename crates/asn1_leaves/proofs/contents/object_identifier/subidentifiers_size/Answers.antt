-- For `contents::object_identifier::subidentifiers_size`: what it returns is right.
use Rattle.std.proofs.Common.{arith, ℕ, ◌+◌, length, ap, ◌∙◌}
use Rattle.std.specs.List.{flat_map}
use Rattle.std.proofs.lemmas.Grind.{common_steps}
use Rattle.std.proofs.lemmas.List.{take_all}
use Rattle.std.proofs.lemmas.List.Folds.{length-flat_map-take}
use Rattle.asn1_numbers.specs.Base128.{shortest_base128}
use Rattle.asn1_leaves.proofs.contents.object_identifier.subidentifiers_size.Goals as goal

pub returns-in_err-size : goal.returns-in_err-size
returns-in_err-size c =
    let fits = length-flat_map-take shortest_base128 c.args.components.now c.loop-component.component-index
    c.component-item.result c.loop-component-test.true in
    let same = ap (λ (n : ℕ). length (shortest_base128 n)) c.component-item.is in
    grind (arith, common_steps, fits, same)

pub returns : goal.returns
returns c =
    let all = take_all c.loop-component.component-index c.args.components.now (omega arith) in
    let n = c.loop-component.invariant.so_far ∙ ap (λ ns. 1 + length (flat_map shortest_base128 ns)) all in
    (omega (arith, n, c.loop-component.invariant.fits), n)
