-- For `dotted::push_numeral`: what it returns is right.
use Rattle.std.proofs.Common.{◌++◌, ap, ◌∙◌}
use Rattle.asn1_numbers.proofs.Numerals.{natural_numeral-digit}
use Rattle.asn1_records.proofs.dotted.push_numeral.Goals as goal

pub returns-then-n-lt10 : goal.returns-then-n-lt10
returns-then-n-lt10 c ok =
    let text = c.args.text.now.items in
    c.push_digit.ensures ok ∙ ap (λ z. text ++ z) (natural_numeral-digit c.args.n c.if-n-lt10.true)
