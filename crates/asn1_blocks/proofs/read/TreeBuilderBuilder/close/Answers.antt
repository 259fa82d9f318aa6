-- For `read::TreeBuilderBuilder::close`: what it returns is right.
use Rattle.std.proofs.Common.{◌≡◌, ℕ, zero, suc, ◌+◌, length, refl, arith}
use Rattle.std.proofs.lemmas.Grind.{common_steps}
use Rattle.std.proofs.lemmas.Result.{on_ok_weaker}
use Rattle.asn1_blocks.specs.Inner.ReaderSteps.{in_frame}
use Rattle.asn1_blocks.proofs.TreeBuilding.Ending.{HasEndedIn-explicit_postponed, HasEndedIn-explicit_pushed, HasEndedIn-group_postponed, HasEndedIn-group_pushed, HasEndedIn-as_it_came}
use Rattle.asn1_blocks.proofs.read.TreeBuilderBuilder.close.Goals as goal
use Rattle.asn1_blocks.proofs.read.TreeBuilderBuilder.close.Goals.{else-postponed_count-eq1-via-then-postponed_count-eq1+else-len-eq0, else-postponed_count-eq1-via-else-postponed_count-eq1, else-postponed_count-eq0-via-then-postponed_count-eq0+else-len-eq1, else-postponed_count-eq0-via-else-postponed_count-eq0}

pub returns-then-postponed_count-ne0 : goal.returns-then-postponed_count-ne0
returns-then-postponed_count-ne0 c =
    on_ok_weaker c.postpone.result
    (HasEndedIn-group_postponed c.args.octets.now c.args.self.now c.postpone.new.self c.args.parent.now
    c.postpone.new.items (in_frame c.args.extent c.args.items) c.args.depth
    c.args.self.now refl c.in-Group.group c.in-Group.is) c.postpone.ensures

pub returns-else-postponed_count-ne0 : goal.returns-else-postponed_count-ne0
returns-else-postponed_count-ne0 c =
    on_ok_weaker c.push_block.result
    (HasEndedIn-group_pushed c.args.octets.now c.args.self.now c.push_block.new.self c.args.parent.now
    c.push_block.new.items (in_frame c.args.extent c.args.items) c.args.depth
    c.args.self.now refl c.in-Group.group c.group_block.result c.in-Group.is c.if-postponed_count-ne0.false
    c.group_block.ensures) c.push_block.ensures

pub returns-then-len-eq0 : goal.returns-then-len-eq0
returns-then-len-eq0 c =
    let none : length c.args.items.first ≡ 0 = grind (arith, common_steps) in
    on_ok_weaker c.postpone-then-len-eq0.result
    (HasEndedIn-explicit_postponed c.args.octets.now c.args.self.now c.postpone-then-len-eq0.new.self c.args.parent.now
    c.postpone-then-len-eq0.new.items (in_frame c.args.extent c.args.items) c.args.depth
    (record { postponed = c.args.self.now.postponed; outermost = c.leave-inside.new.outermost }) refl
    c.in-Attempt.is c.if-postponed_count-eq1.true none) c.postpone-then-len-eq0.ensures

pub returns-then-len-eq1 : goal.returns-then-len-eq1
returns-then-len-eq1 c =
    let (item, one, means) = c.in_ok-block-in-Attempt.ensures in
    on_ok_weaker c.push_block-then-len-eq1.result
    (HasEndedIn-explicit_pushed c.args.octets.now c.args.self.now c.push_block-then-len-eq1.new.self c.args.parent.now
    c.push_block-then-len-eq1.new.items (in_frame c.args.extent c.args.items) c.args.depth
    (record { postponed = c.args.self.now.postponed; outermost = c.leave-inside.new.outermost }) refl
    c.in_ok-block-in-Attempt.block item c.in-Attempt.is c.if-postponed_count-eq0.true one means)
    c.push_block-then-len-eq1.ensures

-- two numbers that are not one and zero, in either order, do not add up to one
add-not_one : (a b : ℕ) → (b ≡ 1 → a ≡ 0 → ⊥) → (b ≡ 0 → a ≡ 1 → ⊥) → a + b ≡ 1 → ⊥
add-not_one a zero p q e = q refl (omega (arith, e))
add-not_one a (suc zero) p q e = p (omega arith) (omega (arith, e))
add-not_one a (suc (suc b)) p q e = absurd (omega (arith, e))

pub returns-else-postponed_count-eq0 : goal.returns-else-postponed_count-eq0
returns-else-postponed_count-eq0 c =
    let k = c.args.items in
    let e1 : k.postponed_count ≡ 1 → length k.first ≡ 0 → ⊥ =
    elim c.else-postponed_count-eq1.branch [
      | else-postponed_count-eq1-via-then-postponed_count-eq1+else-len-eq0 u ↦ grind (arith, common_steps)
      | else-postponed_count-eq1-via-else-postponed_count-eq1 u ↦ grind (arith, common_steps)
    ] in
    let e0 : k.postponed_count ≡ 0 → length k.first ≡ 1 → ⊥ =
    elim c.else-postponed_count-eq0.branch [
      | else-postponed_count-eq0-via-then-postponed_count-eq0+else-len-eq1 u ↦ grind (arith, common_steps)
      | else-postponed_count-eq0-via-else-postponed_count-eq0 u ↦ grind (arith, common_steps)
    ] in
    on_ok_weaker c.push_as_it_came.result
    (HasEndedIn-as_it_came c.args.octets.now c.args.self.now c.push_as_it_came.new.self c.args.parent.now
    c.push_as_it_came.new.items (in_frame c.args.extent c.args.items)
    c.args.depth (record { postponed = c.truncate.new.self; outermost = c.leave-inside.new.outermost })
    c.truncate.ensures.items c.in-Attempt.is (add-not_one (length k.first) k.postponed_count e1 e0))
    c.push_as_it_came.ensures
