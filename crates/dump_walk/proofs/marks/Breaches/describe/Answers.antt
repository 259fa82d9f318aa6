-- For `marks::Breaches::describe`: its loop keeps its invariant, and what it returns is right.
use Rattle.std.proofs.Common.{◌≡◌, [], ◌∷◌, ◌++◌, ◌∙◌, ap, append-nil, arith, map, subst, sym, take, true}
use Rattle.std.proofs.lemmas.List.{map-append, map_more, take_all}
use Rattle.asn1_der.specs.Rules.{text_of}
use Rattle.dump_walk.specs.Marks.{spare_if, text_in}
use Rattle.dump_walk.proofs.marks.Breaches.describe.Goals as goal

pub loop-rule-init : goal.loop-rule-init
loop-rule-init c = ap (map text_in) c.new-broken.ensures.items

pub loop-rule-preserved : goal.loop-rule-preserved
loop-rule-preserved c =
    let rules = c.deref-rule-items.result.now in
    let i = c.loop-rule.rule-index in
    ap (map text_in) c.in_ok-push.ensures.items
    ∙ (map-append text_in c.loop-rule.broken.items (_ ∷ [])
    ∙ (ap (λ z. z ++ c.text.result.now ∷ []) c.loop-rule.invariant
    ∙ (ap (λ z. map text_of (take i rules) ++ z ∷ []) c.text.ensures
    ∙ sym (map_more text_of rules i _ c.loop-rule-test.true))))

pub returns-then-not-self : goal.returns-then-not-self
returns-then-not-self c =
    let rules = map text_of c.args.self.now.rules.items in
    subst (λ z. map text_in c.loop-rule.broken.items ≡ map text_of z)
    (take_all c.loop-rule.rule-index c.deref-rule-items.result.now (omega arith)) c.loop-rule.invariant
    ∙ (ap (map text_of) c.deref-rule-items.ensures.value
    ∙ (sym (append-nil rules) ∙ ap (λ z. rules ++ spare_if z) (sym c.if-not-self.true)))

pub returns : goal.returns
returns c =
    let rules = map text_of c.args.self.now.rules.items in
    let told = subst (λ z. map text_in c.loop-rule.broken.items ≡ map text_of z)
    (take_all c.loop-rule.rule-index c.deref-rule-items.result.now (omega arith)) c.loop-rule.invariant
    ∙ ap (map text_of) c.deref-rule-items.ensures.value in
    ap (map text_in) c.in_ok-push-2.ensures.items
    ∙ (map-append text_in c.loop-rule.broken.items (_ ∷ [])
    ∙ (ap (λ z. z ++ spare_if true) told ∙ ap (λ z. rules ++ spare_if z) (sym c.if-not-self.false)))
