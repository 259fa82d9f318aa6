-- For `tree_walk::in_tree_order`: its loop keeps its invariant, what it returns is right, and its loop ends.
use Rattle.std.proofs.Common.{◌≡◌, ◌++◌, ◌∷◌, [], map, sym, ap, subst, ◌∙◌, arith, Bor}
use Rattle.std.proofs.lemmas.Grind.{common_steps}
use Rattle.std.proofs.lemmas.List.{map_push}
use Rattle.asn1_blocks.specs.Inner.TreeOrder.{IsNextTree, ahead}
use Rattle.asn1_blocks.specs.declared.block.ASN1Block.{ASN1Block}
use Rattle.asn1_blocks.proofs.TreeOrders.{IsFoundBefore, all_blocks_in-next, IsInTreeOrder-found, IsFoundBefore-next}
use Rattle.asn1_blocks.proofs.tree_walk.in_tree_order.Goals as goal

pub loop-walk-smaller : goal.loop-walk-smaller
loop-walk-smaller c =
    let n : IsNextTree c.in-Some.block.now (ahead c.loop-walk.walk) (ahead c.next.new.self) =
    rw c.in-Some.is at c.in_ok-block.ensures in
    omega (arith, all_blocks_in-next c.in-Some.block.now (ahead c.loop-walk.walk) (ahead c.next.new.self) n)

pub loop-walk-preserved : goal.loop-walk-preserved
loop-walk-preserved c =
    let b = c.in-Some.block.now in
    let done = map (λ x. x.now) c.loop-walk.order.items in
    let n : IsNextTree b (ahead c.loop-walk.walk) (ahead c.next.new.self) = rw c.in-Some.is at c.in_ok-block.ensures in
    let p : c.push.new.self.items ≡ c.loop-walk.order.items ++ c.in-Some.block ∷ [] = grind (arith, common_steps) in
    let e = ap (map (λ (x : Bor ASN1Block). x.now)) p
    ∙ map_push (λ (x : Bor ASN1Block). x.now) c.loop-walk.order.items c.in-Some.block in
    subst (λ z. IsFoundBefore z (ahead c.next.new.self) c.args.blocks.now) (sym e)
    (IsFoundBefore-next done (ahead c.loop-walk.walk)
    (ahead c.next.new.self) c.args.blocks.now b c.loop-walk.invariant n)

pub returns : goal.returns
returns c =
    IsInTreeOrder-found (map (λ x. x.now) c.loop-walk.order.items) (ahead c.loop-walk.walk) c.args.blocks.now
    c.loop-walk.invariant (rw c.in_default.is at c.in_ok-block.ensures)
