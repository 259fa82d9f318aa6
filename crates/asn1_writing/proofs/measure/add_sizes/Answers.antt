-- For `measure::add_sizes`: its loop keeps its invariant, what it returns is right (`blocks`, `size`), and
-- `take_sum` may be called.
use Rattle.std.proofs.Common.{◌≡◌, ◌+◌, ◌-◌, ◌++◌, ◌∷◌, [], ◌≤◌, ◌<◌, length, take, drop, get_or, set, refl, sym, ap, subst, ◌∙◌, arith}
use Rattle.std.proofs.lemmas.Grind.{common_steps}
use Rattle.std.proofs.lemmas.List.{get_or-map, length-map, map-set}
use Rattle.std.proofs.Math.Seq.{map-set_same}
use Rattle.std.proofs.Math.ListN.{length-set}
use Rattle.std.specs.List.{sum}
use Rattle.asn1_writing.specs.Canonical.{canonical}
use Rattle.asn1_headers.specs.Header.{shortest_length}
use Rattle.asn1_blocks.specs.Inner.TreeOrder.{IsInTreeOrder}
use Rattle.asn1_blocks.specs.View.{view}
use Rattle.asn1_writing.specs.Inner.WriteWalk.{contents_size_of, measured_blocks, measured_sizes, own_size_of}
use Rattle.asn1_writing.specs.declared.measure.Measured.{Measured}
use Rattle.asn1_blocks.proofs.TreeOrders.{IsInTreeOrder-drop}
use Rattle.asn1_writing.proofs.WriteSteps.{length-canonical, length-contents_of, set-measured_size, MeasuresBlock-at, sum-sizes_back, IfOk-total_size}
use Rattle.asn1_writing.proofs.measure.add_sizes.Goals as goal

pub take_sum-requires : goal.take_sum-requires
take_sum-requires c =
    let i = c.loop-i.i in
    let j = i - 1 in
    let x = get_or c.loop-i.list j c.index-list-i.result in
    let order = measured_blocks c.args.list.now in
    let l : i ≤ length order =
    omega (
      arith,
      c.loop-i.invariant.within,
      c.loop-i.auto.list,
      length-map c.args.list.now (λ (m : Measured). m.block.now),
    ) in
    let g = sym (get_or-map (λ (m : Measured). m.block.now) c.loop-i.list j c.index-list-i.result x.block.now (omega (
      arith,
      c.loop-i.invariant.within,
    ))) ∙ ap (λ z. get_or z j x.block.now) c.loop-i.invariant.blocks in
    let some = IsInTreeOrder-drop order c.requires.ordered.0 j c.requires.ordered.1 (omega (arith, l)) in
    let s =
    MeasuresBlock-at order i j x.block.now c.loop-i.sizes.items (length c.loop-i.sizes.items) c.blocks_inside.result.now
    (omega arith) l g
    (λ k. length c.loop-i.sizes.items) c.loop-i.invariant.sizes c.blocks_inside.ensures some.0 some.1 in
    omega (arith, s.enough, c.loop-i.sizes.ok.0)

pub returns-in_err-size-clause-blocks : goal.returns-in_err-size-clause-blocks
returns-in_err-size-clause-blocks c =
    map-set_same (λ (m : Measured). m.block.now) c.loop-i.list (c.loop-i.i - 1) _ c.index-list-i-in-loop-i-2.result refl
    ∙ c.loop-i.invariant.blocks

pub loop-i-preserved : goal.loop-i-preserved
loop-i-preserved c =
    let i = c.loop-i.i in
    let j = i - 1 in
    let x = get_or c.loop-i.list j c.index-list-i.result in
    let b = x.block.now in
    let order = measured_blocks c.args.list.now in
    let a : j + 1 ≡ i = omega arith in
    let h : j < length c.loop-i.list = omega (arith, c.loop-i.invariant.within) in
    let l : i ≤ length order =
    omega (
      arith,
      c.loop-i.invariant.within,
      c.loop-i.auto.list,
      length-map c.args.list.now (λ (m : Measured). m.block.now),
    ) in
    let g = sym (get_or-map (λ (m : Measured). m.block.now) c.loop-i.list j c.index-list-i.result b h)
    ∙ ap (λ z. get_or z j b) c.loop-i.invariant.blocks in
    let steps = MeasuresBlock-at order i j b c.loop-i.sizes.items c.loop-i.sizes.len c.blocks_inside.result.now a l g
    c.loop-i.sizes.ok.0 c.loop-i.invariant.sizes c.blocks_inside.ensures in
    let some = IsInTreeOrder-drop order c.requires.ordered.0 j c.requires.ordered.1 (omega (arith, l)) in
    let s = steps some.0 some.1 in
    let p = set-measured_size own_size_of contents_size_of order i j b (measured_sizes c.loop-i.list) a l g
    c.loop-i.invariant.contents in
    let m = get_or-map (λ (m : Measured). m.contents) c.loop-i.list j c.index-list-i-in-loop-i.result 0 h in
    let q : c.in_ok-contents.contents ≡ contents_size_of b =
    c.in_ok-contents.ensures.sum
    ∙ omega (arith, p.0, m, c.in_ok-inside.ensures.sum, s.sum_inside, length-contents_of (view b)) in
    record {
      within =
          omega (
            arith,
            c.loop-i.invariant.within,
            length-set c.loop-i.list j (record {
              block = (get_or c.loop-i.list j c.index-list-i-in-loop-i-2.result).block;
              contents = c.in_ok-contents.contents;
            }),
          );
      blocks = map-set_same (λ (m : Measured). m.block.now) c.loop-i.list j _ c.index-list-i-in-loop-i-2.result refl
          ∙ c.loop-i.invariant.blocks;
      contents = map-set (λ (m : Measured). m.contents) c.loop-i.list j _
          ∙ (ap (λ z. set (measured_sizes c.loop-i.list) j z) q ∙ p.1);
      sizes = λ left o.
          let r = steps left o in
          let t : c.push.new.self.items ≡ c.take_sum.new.sizes.items ++ c.in_ok-size.size ∷ [] =
          grind (arith, common_steps) in
          let z : c.in_ok-size.size ≡ length (canonical (view b)) = c.in_ok-size.ensures.size
          ∙ (ap (λ w. c.identifier_size_of.result + (length (shortest_length w) + w)) q
          ∙ omega (arith, c.identifier_size_of.ensures, length-canonical (view b))) in
          t ∙ (ap (λ w. w ++ c.in_ok-size.size ∷ []) c.in_ok-inside.ensures.rest
          ∙ (ap (λ w. take (c.loop-i.sizes.len - length c.blocks_inside.result.now) c.loop-i.sizes.items ++ w ∷ []) z
          ∙ r.after));
    }

pub returns-in_err-push-clause-blocks : goal.returns-in_err-push-clause-blocks
returns-in_err-push-clause-blocks c =
    map-set_same (λ (m : Measured). m.block.now) c.loop-i.list (c.loop-i.i - 1) _ c.index-list-i-in-loop-i-2.result refl
    ∙ c.loop-i.invariant.blocks

pub returns-clause-size : goal.returns-clause-size
returns-clause-size c =
    let z : c.loop-i.i ≡ 0 = omega arith in
    let n : c.loop-i.sizes.len - c.len-n.result ≡ 0 = omega (arith, c.len-n.ensures) in
    let order = measured_blocks c.args.list.now in
    IfOk-total_size c.take_sum-2.result (sum (drop (c.loop-i.sizes.len - c.len-n.result) c.loop-i.sizes.items)) order
    c.take_sum-2.ensures.sum (λ blocks h.
    ap (λ w. sum (drop w c.loop-i.sizes.items)) n
    ∙ (ap sum (c.loop-i.invariant.sizes blocks (subst (λ w. IsInTreeOrder (drop w order) blocks) (sym z) h))
    ∙ sum-sizes_back blocks))
