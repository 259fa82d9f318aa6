-- For `block::copy::copy`: its loop keeps its invariant and `take_back` and `copy_over` may be called.
use Rattle.std.proofs.Common.{◌≡◌, ℕ, ◌-◌, ◌≤◌, ◌<◌, List, length, map, reverse, get_or, sym, ap, ◌∙◌, arith, Bor}
use Rattle.std.proofs.lemmas.List.{get_or-map, length-map}
use Rattle.asn1_blocks.specs.declared.block.ASN1Block.{ASN1Block}
use Rattle.asn1_blocks.specs.View.{views}
use Rattle.asn1_blocks.proofs.BlockLists.{tree_count, tree_count-views}
use Rattle.asn1_blocks.proofs.CopySteps.{tree_count-inside_le, IsTaken-held}
use Rattle.asn1_blocks.proofs.TreeOrders.{BeginsAtPlace-drop, IsInTreeOrder-drop}
use Rattle.asn1_blocks.proofs.block.copy.copy.Goals as goal

-- the block that is lent at a place is the one at this place of the list of the blocks themselves
get_or-map_now : (order : List (Bor ASN1Block)) (j : ℕ) (x : Bor ASN1Block) → j < length order → x ≡ get_or order j x
    → x.now ≡ get_or (map (λ b. b.now) order) j x.now
get_or-map_now order j x h e =
    ap (λ (b : Bor ASN1Block). b.now) e ∙ sym (get_or-map (λ (b : Bor ASN1Block). b.now) order j x x.now h)

pub take_back-requires : goal.take_back-requires
take_back-requires c =
    let i = c.loop-i.i in
    let items = c.in_ok-order.order.items in
    let order = map (λ b. b.now) items in
    let l : i ≤ length order = omega (arith, length-map items (λ (b : Bor ASN1Block). b.now)) in
    let g = get_or-map_now items (i - 1) c.index-block.result.now (omega arith) c.index-block.ensures in
    let some = IsInTreeOrder-drop order c.from_ref.result.now (i - 1) c.in_ok-order.ensures (omega (arith, l)) in
    let p = BeginsAtPlace-drop order some.0 i (i - 1) c.index-block.result.now.now (omega arith) l g some.1 in
    let e = tree_count-inside_le c.index-block.result.now.now some.0 p.after c.loop-i.copies p.next
    (c.loop-i.invariant.copied p.after p.ordered) in
    omega (arith, e, sym (tree_count-views c.blocks_inside.result.now) ∙ ap tree_count c.blocks_inside.ensures)

pub copy_over-requires : goal.copy_over-requires
copy_over-requires c =
    let i = c.loop-i.i in
    let items = c.in_ok-order.order.items in
    let order = map (λ b. b.now) items in
    let l : i ≤ length order = omega (arith, length-map items (λ (b : Bor ASN1Block). b.now)) in
    let g = get_or-map_now items (i - 1) c.index-block.result.now (omega arith) c.index-block.ensures in
    let some = IsInTreeOrder-drop order c.from_ref.result.now (i - 1) c.in_ok-order.ensures (omega (arith, l)) in
    let p = BeginsAtPlace-drop order some.0 i (i - 1) c.index-block.result.now.now (omega arith) l g some.1 in
    let n = c.in_ok-held.ensures.count
    ∙ (sym (tree_count-views c.blocks_inside.result.now) ∙ ap tree_count c.blocks_inside.ensures) in
    let t = c.in_ok-held.ensures.taken in
    (IsTaken-held c.index-block.result.now.now some.0 p.after c.loop-i.copies c.in_ok-held.held c.take_back.new.copies
    p.next
    (c.loop-i.invariant.copied p.after p.ordered) n t).held

pub loop-i-preserved : goal.loop-i-preserved
loop-i-preserved c =
    let i = c.loop-i.i in
    let items = c.in_ok-order.order.items in
    let order = map (λ b. b.now) items in
    let l : i ≤ length order = omega (arith, length-map items (λ (b : Bor ASN1Block). b.now)) in
    let g = get_or-map_now items (i - 1) c.index-block.result.now (omega arith) c.index-block.ensures in
    let n = c.in_ok-held.ensures.count
    ∙ (sym (tree_count-views c.blocks_inside.result.now) ∙ ap tree_count c.blocks_inside.ensures) in
    let t = c.in_ok-held.ensures.taken in
    record {
      within = omega arith;
      copied = λ left h.
          let p = BeginsAtPlace-drop order left i (i - 1) c.index-block.result.now.now (omega arith) l g h in
          let k = IsTaken-held c.index-block.result.now.now left p.after c.loop-i.copies c.in_ok-held.held
          c.take_back.new.copies p.next (c.loop-i.invariant.copied p.after p.ordered) n t in
          ap (λ z. views (reverse z)) c.in_ok-push.ensures ∙ k.copied c.in_ok-copy.copy c.in_ok-copy.ensures;
    }
