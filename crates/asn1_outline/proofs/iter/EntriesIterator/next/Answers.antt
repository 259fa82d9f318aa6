-- For `iter::EntriesIterator::next`: what it returns is right (`steps`, `goes`).
use Rattle.std.proofs.Common.{◌≡◌, ◌+◌, ◌-◌, ◌∷◌, min, length, sym, ap, ◌∙◌, rules, arith}
use Rattle.std.proofs.lemmas.List.{take_rest}
use Rattle.asn1_outline.specs.Iterated.{still_to_come}
use Rattle.asn1_outline.proofs.Iterating.{still_to_come-step}
use Rattle.asn1_outline.proofs.iter.EntriesIterator.next.Goals as goal

pub returns-clause-steps : goal.returns-clause-steps
returns-clause-steps c =
    let it = c.self.inside in
    let r = c.in_ok-entry.entry.now in
    let rest = c.in_ok-entry.rest.now in
    let n = c.min-inside.result in
    let count : n ≡ min (r.next - (it.index + 1)) (length rest) = search rules in
    sym c.self.view_is ∙ still_to_come-step it.all it.index n r it.rest.now rest c.if-self.false
    c.in_ok-entry.ensures.cases.0 count
    ∙ ap (λ z. (it.index, r) ∷ still_to_come it.all (it.index + 1 + n) z) (sym (take_rest rest n))

pub returns-clause-goes : goal.returns-clause-goes
returns-clause-goes c =
    let it = c.self.inside in
    let r = c.in_ok-entry.entry.now in
    let rest = c.in_ok-entry.rest.now in
    let n = c.min-inside.result in
    let count : n ≡ min (r.next - (it.index + 1)) (length rest) = search rules in
    let step = sym c.self.view_is
    ∙ still_to_come-step it.all it.index n r it.rest.now rest c.if-self.false c.in_ok-entry.ensures.cases.0 count
    ∙ ap (λ z. (it.index, r) ∷ still_to_come it.all (it.index + 1 + n) z) (sym (take_rest rest n)) in
    record { on = λ finite. (tt, tt, omega (arith, ap length step)); keeps = tt; rests = λ _. tt }
