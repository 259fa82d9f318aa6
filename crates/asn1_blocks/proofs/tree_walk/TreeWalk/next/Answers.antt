-- For `tree_walk::TreeWalk::next`: its loop keeps its invariant.
use Rattle.std.proofs.Common.{◌≡◌, ◌++◌, ◌∷◌, [], map, sym, ap, ◌∙◌, arith}
use Rattle.std.proofs.lemmas.Grind.{common_steps}
use Rattle.std.proofs.lemmas.List.{nil_from_length}
use Rattle.asn1_blocks.specs.Inner.TreeOrder.{stacked}
use Rattle.asn1_blocks.proofs.TreeOrders.{stacked-map_append_last}
use Rattle.asn1_blocks.proofs.tree_walk.TreeWalk.next.Goals as goal

pub loop-block-preserved : goal.loop-block-preserved
loop-block-preserved c =
    let outer = c.loop-block.self.outer.items in
    let o : outer ≡ c.pop.new.self.items ++ c.in-Some-pop.rest ∷ [] = grind (arith, common_steps) in
    let e = nil_from_length c.loop-block.self.front.now (grind (arith, common_steps)) in
    sym
    (ap (λ z. z ++ stacked (map (λ x. x.now) outer)) e
    ∙ stacked-map_append_last outer c.pop.new.self.items c.in-Some-pop.rest o)
    ∙ c.loop-block.invariant
