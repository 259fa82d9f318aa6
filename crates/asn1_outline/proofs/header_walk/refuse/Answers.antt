-- For `header_walk::refuse`: its loop keeps its invariant and what it returns is right.
use Rattle.std.proofs.Common.{◌≡◌, [], true, inr, arith}
use Rattle.std.proofs.lemmas.Grind.{common_steps}
use Rattle.std.proofs.lemmas.Result.{on_ok_weaker}
use Rattle.asn1_blocks.specs.Inner.OpenFrames.{is_attempt}
use Rattle.asn1_outline.proofs.Walks.{HasWalkedOn-failed_attempt, IsAtFault-enclosing, HeadersFaultAt-faulty, HasWalked-stepped}
use Rattle.asn1_outline.proofs.header_walk.refuse.Goals as goal

pub returns-then-attempt : goal.returns-then-attempt
returns-then-attempt c =
    let x = c.args._octets.now in
    let w = c.loop-parent.reader in
    let g = c.in-Some.parent in
    let tries : is_attempt w.inner.extent.kind ≡ true = grind (arith, common_steps) in
    HasWalked-stepped x _ _ c.add-step.result c.turn_of.result c.turn_of.new.reader c.turn_of.ensures
    (on_ok_weaker c.add-step.result
    (HasWalkedOn-failed_attempt x w g c.pop.new.self _ _ _ c.loop-parent.invariant.faulty c.in-Some.ensures.items
    c.cut.new.self c.add-step.new.self tries
    c.cut.ensures)
    c.add-step.ensures)

pub loop-parent-preserved : goal.loop-parent-preserved
loop-parent-preserved c =
    let x = c.args._octets.now in
    let w = c.loop-parent.reader in
    let g = c.in-Some.parent in
    let group : is_attempt w.inner.extent.kind ≡ true → ⊥ = grind (arith, common_steps) in
    record {
      faulty =
          IsAtFault-enclosing x w g c.pop.new.self _ _ _ c.loop-parent.invariant.faulty c.in-Some.ensures.items group;
    }

pub returns : goal.returns
returns c =
    let w = c.loop-parent.reader in
    let none : w.outer.items ≡ [] = grind (arith, common_steps) in
    inr (HeadersFaultAt-faulty c.args._octets.now w _ _ _ c.loop-parent.invariant.faulty none)
