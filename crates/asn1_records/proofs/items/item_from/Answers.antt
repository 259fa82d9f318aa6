-- For `items::item_from`: its loop keeps its invariant and what it returns is right (`item`).
use Rattle.std.proofs.Common.{◌≡◌, ℕ, suc, ◌+◌, ◌-◌, ◌≤◌, List, length, length-append, sym, ap, subst, ◌∙◌, arith}
use Rattle.std.specs.List.{slice_range}
use Rattle.std.proofs.lemmas.Grind.{common_steps}
use Rattle.std.proofs.lemmas.Option.{MatchOption-at_none, MatchOption-at_some}
use Rattle.asn1_blocks.specs.Places.{HasNoEncodingAt, HeaderFound}
use Rattle.asn1_blocks.specs.declared.parsed.PlacedHeader.{PlacedHeader}
use Rattle.asn1_blocks.proofs.ReadSteps.{length-slice_range}
use Rattle.asn1_outline.specs.Shapes.{AreShapes}
use Rattle.asn1_records.specs.Inner.Named.{shapes_from}
use Rattle.asn1_records.proofs.SideBySide.{AreShapes-no_encoding, AreShapes-no_header, BeginWithEncoding-first, BeginWithHeader-found, shapes_from-next, shapes_from-none, slice_range-behind}
use Rattle.asn1_records.proofs.items.item_from.Goals as goal

-- no header is found from the offset to the limit
abbrev NoneAt : List ℕ → ℕ → ℕ → Type 0
NoneAt x offset limit = (h : PlacedHeader) → HeaderFound x offset limit h → ⊥

pub loop-init : goal.loop-init
loop-init c =
    let x = c.args.octets.now in
    let s = c.args.start in
    let e = c.args.end in
    let rest = c.of-encodings.result.rest.now in
    let is : rest ≡ slice_range x s e = c.of-encodings.ensures in
    let size : length rest ≡ e - s = ap length is ∙ length-slice_range x s e c.requires.order c.requires.within in
    let place : e - length rest ≡ s = omega (arith, size, c.requires.order) in
    record {
      within = omega (arith, size);
      left = is ∙ ap (λ n. slice_range x n e) (sym place);
      behind = λ all are. subst (λ n. AreShapes x n e all) (sym place) are;
    }

pub loop-preserved : goal.loop-preserved
loop-preserved c =
    let x = c.args.octets.now in
    let e = c.args.end in
    let k = c.loop.counter in
    let p = e - length c.loop.encodings.rest.now in
    let first = c.in-Some.field-0.now in
    let after = c.next.new.self.rest.now in
    let (is, w) = c.in-Some.ensures.steps in
    let here = sym c.loop.invariant.left ∙ w in
    let next : k + 1 ≡ suc k = omega arith in
    record {
      within = omega (arith, c.loop.invariant.within, ap length w, length-append first after);
      left = slice_range-behind x p e first after (omega arith) c.requires.within here;
      behind = λ all are.
          let b = BeginWithEncoding-first x p e (shapes_from k all) first after c.requires.within
          (c.loop.invariant.behind all are) is here in
          let rest_is = ap (λ n. shapes_from n all) next ∙ shapes_from-next k all p b.header b.items b.rest b.is in
          subst (λ n. AreShapes x n e (shapes_from (k + 1) all)) b.end_is
          (subst (AreShapes x b.header.end e) (sym rest_is) b.more);
    }

pub returns-in_default-clause-item : goal.returns-in_default-clause-item
returns-in_default-clause-item c all are =
    let x = c.args.octets.now in
    let e = c.args.end in
    let p = e - length c.loop.encodings.rest.now in
    let none = subst (λ z. HasNoEncodingAt z 0) c.loop.invariant.left c.in_default.ensures.steps.0 in
    let before : c.loop.counter ≤ c.args.step = grind (arith, common_steps) in
    shapes_from-none c.loop.counter c.args.step all
    (AreShapes-no_encoding x p e (shapes_from c.loop.counter all) c.requires.within (c.loop.invariant.behind all are)
    none) before

pub returns-in-Some-2-clause-item : goal.returns-in-Some-2-clause-item
returns-in-Some-2-clause-item c all are =
    let x = c.args.octets.now in
    let e = c.args.end in
    let p = e - length c.loop.encodings.rest.now in
    let h = c.in-Some-2.header in
    let found = MatchOption-at_some (NoneAt x p e) (HeaderFound x p e) h c.in-Some-2.is c.in_ok-header.ensures in
    let b = BeginWithHeader-found x p e (shapes_from c.loop.counter all) h c.requires.within
    (c.loop.invariant.behind all are) found in
    let passed : c.args.step ≡ c.loop.counter = grind (arith, common_steps) in
    (b.items, b.rest, ap (λ n. shapes_from n all) passed ∙ b.is, b.has)

pub returns-in-None-clause-item : goal.returns-in-None-clause-item
returns-in-None-clause-item c all are =
    let x = c.args.octets.now in
    let e = c.args.end in
    let p = e - length c.loop.encodings.rest.now in
    let none = MatchOption-at_none (NoneAt x p e) (HeaderFound x p e) c.in-None.is c.in_ok-header.ensures in
    let before : c.loop.counter ≤ c.args.step = grind (arith, common_steps) in
    shapes_from-none c.loop.counter c.args.step all
    (AreShapes-no_header x p e (shapes_from c.loop.counter all) (c.loop.invariant.behind all are) none) before
