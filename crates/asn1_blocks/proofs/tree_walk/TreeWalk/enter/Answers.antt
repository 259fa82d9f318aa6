-- For `tree_walk::TreeWalk::enter`: what it returns is right.
use Rattle.std.proofs.Common.{◌≡◌, ◌++◌, ◌∷◌, [], map, sym, ap, arith}
use Rattle.std.proofs.lemmas.Grind.{common_steps}
use Rattle.std.proofs.lemmas.List.{nil_from_length}
use Rattle.asn1_blocks.specs.Inner.TreeOrder.{stacked}
use Rattle.asn1_blocks.proofs.TreeOrders.{stacked-map_append_last}
use Rattle.asn1_blocks.proofs.tree_walk.TreeWalk.enter.Goals as goal

pub returns-then-is_empty : goal.returns-then-is_empty
returns-then-is_empty c =
    let outer = stacked (map (λ x. x.now) c.args.self.now.outer.items) in
    ap (λ z. z ++ (c.args.rest.now ++ outer)) (sym (nil_from_length c.args.held.now (grind (arith, common_steps))))

pub returns-then-is_empty-2 : goal.returns-then-is_empty-2
returns-then-is_empty-2 c =
    let outer = stacked (map (λ x. x.now) c.args.self.now.outer.items) in
    ap (λ z. c.args.held.now ++ (z ++ outer)) (sym (nil_from_length c.args.rest.now (grind (arith, common_steps))))

pub returns : goal.returns
returns c =
    let o : c.push.new.self.items ≡ c.args.self.now.outer.items ++ c.args.rest ∷ [] = grind (arith, common_steps) in
    ap (λ z. c.args.held.now ++ z)
    (stacked-map_append_last c.push.new.self.items c.args.self.now.outer.items c.args.rest o)
