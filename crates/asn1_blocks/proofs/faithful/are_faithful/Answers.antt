-- For `faithful::are_faithful`: its loop keeps its invariant and its loop ends.
use Rattle.std.proofs.Common.{arith}
use Rattle.std.proofs.lemmas.Grind.{common_steps}
use Rattle.asn1_blocks.specs.Inner.FaithfulWalk.{IsFaithfulAlone}
use Rattle.asn1_blocks.specs.Inner.TreeOrder.{IsNextTree, ahead}
use Rattle.asn1_blocks.specs.View.{view}
use Rattle.asn1_blocks.proofs.FaithfulWalk.{IsDecidedBy-next}
use Rattle.asn1_blocks.proofs.TreeOrders.{all_blocks_in-next}
use Rattle.asn1_blocks.proofs.faithful.are_faithful.Goals as goal

pub loop-walk-smaller : goal.loop-walk-smaller
loop-walk-smaller c =
    let n : IsNextTree c.in-Some.block.now (ahead c.loop-walk.walk) (ahead c.next.new.self) =
    rw c.in-Some.is at c.in_ok-block.ensures in
    omega (arith, all_blocks_in-next c.in-Some.block.now (ahead c.loop-walk.walk) (ahead c.next.new.self) n)

pub loop-walk-preserved : goal.loop-walk-preserved
loop-walk-preserved c =
    let b = c.in-Some.block.now in
    let n : IsNextTree b (ahead c.loop-walk.walk) (ahead c.next.new.self) = rw c.in-Some.is at c.in_ok-block.ensures in
    let alone : IsFaithfulAlone (view b) = grind (arith, common_steps) in
    IsDecidedBy-next c.args.blocks.now (ahead c.loop-walk.walk) (ahead c.next.new.self) b c.loop-walk.invariant n alone
