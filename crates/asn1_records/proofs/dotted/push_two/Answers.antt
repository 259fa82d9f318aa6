-- For `dotted::push_two`: what it returns is right.
use Rattle.std.proofs.Common.{◌+◌, ◌/◌, ◌%◌, ◌∷◌, [], ◌++◌, refl, ap, ◌∙◌, append_assoc}
use Rattle.asn1_records.proofs.PushedNumerals.{natural_numeral-two_digits}
use Rattle.asn1_records.proofs.dotted.push_two.Goals as goal

pub returns : goal.returns
returns c ok =
    let text = c.args.text.now.items in
    let n = c.args.n in
    c.push_digit-2.ensures ok
    ∙ ap (λ z. z ++ (48 + n % 10) ∷ []) (c.if-not-push_digit.ensures refl)
    ∙ append_assoc text ((48 + n / 10) ∷ []) ((48 + n % 10) ∷ [])
    ∙ ap (λ z. text ++ z) (natural_numeral-two_digits n c.requires.two c.requires.low)
