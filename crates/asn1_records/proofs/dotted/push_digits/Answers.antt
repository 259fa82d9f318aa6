-- For `dotted::push_digits`: what it returns is right.
use Rattle.std.proofs.Common.{◌++◌, ap, ◌∙◌, arith}
use Rattle.asn1_numbers.proofs.Numerals.{decimal-natural_numeral}
use Rattle.asn1_records.proofs.PushedNumerals.{OnOk-is_ok}
use Rattle.asn1_records.proofs.dotted.push_digits.Goals as goal

pub returns : goal.returns
returns c ok =
    let text = c.args.text.now.items in
    let digits = c.as_bytes.ensures.value ∙ c.format.ensures.text ∙ decimal-natural_numeral c.args.n (omega arith) in
    OnOk-is_ok c.try_extend_from_slice.result c.is_ok.result c.is_ok.ensures.value ok c.try_extend_from_slice.ensures.ok
    ∙ ap (λ z. text ++ z) digits
