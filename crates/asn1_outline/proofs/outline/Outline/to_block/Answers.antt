-- For `outline::Outline::to_block`: its loop keeps its invariant and what it returns is right (`found`).
use Rattle.std.proofs.Common.{◌≡◌, ◌+◌, ◌-◌, ◌<◌, drop, get_or, length, sym, ap, subst, ◌∙◌, arith}
use Rattle.std.proofs.lemmas.List.{drop_all, get_or_default}
use Rattle.asn1_outline.specs.Building.{IsBuiltNext, built_trees, roots}
use Rattle.asn1_outline.specs.Entries.{no_entry}
use Rattle.asn1_outline.specs.Structure.{node_at, node_in_order, tree_at}
use Rattle.asn1_outline.proofs.BuildSteps.{built_trees-block_pushed, IsBuiltNext-entry, view-only_built}
use Rattle.asn1_outline.proofs.Lent.{get_or-looked_up, next-node_in_order, next-within}
use Rattle.asn1_outline.proofs.Roots.{roots-one_node}
use Rattle.asn1_outline.proofs.outline.Outline.to_block.Goals as goal

pub loop-i-init : goal.loop-i-init
loop-i-init c =
    let o = c.args.self.now in
    let x = o.octets.now in
    let es = o.entries.items in
    let k = c.args.index in
    let (h, is) =
    get_or-looked_up es c.deref.result.now k c.in-Some.entry.now c.deref.ensures.value c.in-Some.ensures.lookup.3 in
    let (first, last) = next-within x es k o.document h in
    let next = ap (λ z. z.next) is in
    record {
      from = omega (arith, first, next);
      within = omega (arith, last, next);
      to = omega (arith, next);
      built = λ ns d.
          let own = node_in_order (node_at ns k) in
          let over = next-node_in_order x es ns k o.document d h in
          ap built_trees c.new-built.ensures
          ∙ sym (ap roots (drop_all (c.in-Some.entry.now.next - k) own (omega (arith, over, next))));
    }

pub loop-i-preserved : goal.loop-i-preserved
loop-i-preserved c =
    let o = c.args.self.now in
    let x = o.octets.now in
    let es = o.entries.items in
    let k = c.args.index in
    let i = c.loop-i.i in
    let j = i - 1 - k in
    let (h, is) =
    get_or-looked_up es c.deref.result.now k c.in-Some.entry.now c.deref.ensures.value c.in-Some.ensures.lookup.3 in
    record {
      from = omega arith;
      within = omega arith;
      to = omega arith;
      built = λ ns d.
          let own = node_in_order (node_at ns k) in
          let over = next-node_in_order x es ns k o.document d h in
          let l : j < length own = omega (arith, over) in
          let within : k + j < length es = omega arith in
          let one : i - k ≡ j + 1 = omega arith in
          let here : i - 1 ≡ k + j = omega arith in
          let built = c.loop-i.invariant.built ns d ∙ ap (λ z. roots (drop z own)) one in
          let next = IsBuiltNext-entry x es ns o.document d k h j l within (built_trees c.loop-i.built) built in
          let same : c.index.result.now ≡ get_or es (k + j) no_entry =
          c.index.ensures ∙ get_or_default es (i - 1) c.index.result.now no_entry (omega arith)
          ∙ ap (λ z. get_or es z no_entry) here in
          let own_next =
          subst (λ z. IsBuiltNext x (node_at ns (k + j)) z (built_trees c.loop-i.built)) (sym same) next in
          built_trees-block_pushed x es ns o.document d k h j l c.loop-i.built c.block_of.new.built c.push.new.self
          c.in_ok-block.block built (c.in_ok-block.ensures.block (node_at ns (k + j)) own_next)
          (c.in_ok-block.ensures.rest (node_at ns (k + j)) own_next) c.in_ok-push.ensures;
    }

pub returns-clause-found : goal.returns-clause-found
returns-clause-found c ns d h =
    let k = c.args.index in
    let own = node_in_order (node_at ns k) in
    let none : c.loop-i.i - k ≡ 0 = omega arith in
    let all = c.loop-i.invariant.built ns d ∙ ap (λ z. roots (drop z own)) none ∙ roots-one_node (node_at ns k) in
    view-only_built c.loop-i.built c.pop.new.self (tree_at ns k) c.pop.result all c.pop.ensures
