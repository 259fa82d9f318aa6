-- For `oid::OID::from_text`: what it returns is right (`none`, `only`, `identifier`).
use Rattle.std.proofs.Common.{arith, lit<, subst, ap, ◌∙◌, length, ◌<◌, get_or}
use Rattle.std.proofs.lemmas.Grind.{common_steps}
use Rattle.std.proofs.lemmas.Iterator.Consumers.{YieldsList-end, YieldsList-turn}
use Rattle.std.proofs.lemmas.Iterator.Splits.{YieldsList-from_str_split}
use Rattle.asn1_leaves.proofs.DottedNumbers.{slice_split-IsDottedDecimal, part_is_numeral, map-natural_numeral-injective}
use Rattle.asn1_leaves.proofs.oid.OID.from_text.Goals as goal

pub returns-in_default-clause-none : goal.returns-in_default-clause-none
returns-in_default-clause-none c = λ ns dotted.
    let text = c.args.text.now in
    let cut = YieldsList-from_str_split {s = c.into_iter-numeral-iterator.result} 46 text (lit< tt) (cc) (cc) (cc) in
    let turn = YieldsList-turn cut c.loop-numeral.yielded _ c.loop-numeral.yielded_by _ _ c.in-Some.numeral c.in-Some.is
    c.next.ensures.steps in
    let k = length c.loop-numeral.yielded in
    let part = c.in-Some.numeral.now in
    let parts = slice_split-IsDottedDecimal text ns dotted in
    let numeral = part_is_numeral ns k part (subst (λ l. k < length l) parts turn.0)
    (turn.1 ∙ ap (λ l. get_or l k part) parts) in
    let none = rw c.in_default.is at c.in_ok-component.ensures.none in
    none numeral.0 numeral.1

pub returns-clause-only : goal.returns-clause-only
returns-clause-only c = λ ns dotted.
    let text = c.args.text.now in
    let cut = YieldsList-from_str_split {s = c.into_iter-numeral-iterator.result} 46 text (lit< tt) (cc) (cc) (cc) in
    let end =
    YieldsList-end cut c.loop-numeral.yielded _ c.loop-numeral.yielded_by _ _ c.in-None.is c.next.ensures.steps in
    c.new.ensures ∙ map-natural_numeral-injective c.loop-numeral.components.items ns
    (c.loop-numeral.invariant ∙ end.0 ∙ slice_split-IsDottedDecimal text ns dotted)

pub returns-in_err-component-clause-identifier : goal.returns-in_err-component-clause-identifier
returns-in_err-component-clause-identifier c = grind (arith, common_steps)

pub returns-in_err-component-clause-none : goal.returns-in_err-component-clause-none
returns-in_err-component-clause-none c = grind (arith, common_steps)

pub returns-in_err-component-clause-only : goal.returns-in_err-component-clause-only
returns-in_err-component-clause-only c = grind (arith, common_steps)

pub returns-in_default-clause-identifier : goal.returns-in_default-clause-identifier
returns-in_default-clause-identifier c = grind (arith, common_steps)

pub returns-in_default-clause-only : goal.returns-in_default-clause-only
returns-in_default-clause-only c = grind (arith, common_steps)

pub returns-in_err-push-clause-identifier : goal.returns-in_err-push-clause-identifier
returns-in_err-push-clause-identifier c = grind (arith, common_steps)

pub returns-in_err-push-clause-none : goal.returns-in_err-push-clause-none
returns-in_err-push-clause-none c = grind (arith, common_steps)

pub returns-in_err-push-clause-only : goal.returns-in_err-push-clause-only
returns-in_err-push-clause-only c = grind (arith, common_steps)

pub returns-clause-none : goal.returns-clause-none
returns-clause-none c = grind (arith, common_steps)
