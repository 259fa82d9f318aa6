-- For `dotted::push_dotted`: what it returns is right.
use Rattle.std.proofs.Common.{◌≡◌, ◌++◌, ◌∷◌, ◌∙◌, ap, refl, sym, arith, true, false}
use Rattle.asn1_leaves.specs.DottedDecimal.{dotted_decimal}
use Rattle.asn1_leaves.proofs.IdentifierForms.{components_of-contents}
use Rattle.std.proofs.lemmas.Grind.{common_steps}
use Rattle.asn1_records.proofs.PushedNumerals.{dotted_decimal-pushed}
use Rattle.asn1_records.proofs.dotted.push_dotted.Goals.{then-push_numeral, else-push_numeral}
use Rattle.asn1_records.proofs.dotted.push_dotted.Goals as goal

pub returns-then-push_pointed : goal.returns-then-push_pointed
returns-then-push_pointed c ok =
    let contents = c.args.contents.now in
    let rest = c.in-Some.rest.now in
    let text = c.args.text.now.items in
    let meant = c.if-not-are_clearly_meant.ensures.meant refl in
    let e : contents ≡ c.in-Some.octet.now ∷ rest = grind (arith, common_steps) in
    elim c.if-push_numeral.branch [
      | then-push_numeral w ↦
          let two = ap (λ z. z.items) w.text-is ∙ w.push_pointed.ensures (sym w.value-is ∙ c.if-push_pointed.true) in (
            meant.0,
            meant.1,
            dotted_decimal-pushed contents rest c.in-Some.octet.now c.first_two-first.result.0
                c.first_two-first.result.1 text c.push_numeral.new.text.items
                c.if-push_numeral.text.items c.push_subidentifiers.new.text.items e c.first_two-first.ensures
                (w.if-push_numeral.ensures refl) two (c.push_subidentifiers.ensures ok)
                ∙ ap (λ z. text ++ dotted_decimal z) (components_of-contents meant.0 contents meant.1),
          )
      | else-push_numeral w ↦
          let none : false ≡ true = sym w.if-push_numeral.false ∙ sym w.value-is ∙ c.if-push_pointed.true in
          cc
    ]
