-- For `oid::write_dotted`: what it returns is right.
use Rattle.std.proofs.Common.{rules, sym, ap, ◌∙◌}
use Rattle.std.specs.List.{flat_map}
use Rattle.asn1_numbers.specs.Decimal.{natural_numeral}
use Rattle.asn1_leaves.specs.DottedDecimal.{dotted_decimal}
use Rattle.asn1_leaves.specs.Inner.IdentifierForms.{pointed}
use Rattle.asn1_leaves.proofs.DottedNumbers.{dotted_decimal-cons, HasWritten-append}
use Rattle.asn1_leaves.proofs.oid.write_dotted.Goals as goal

pub returns : goal.returns
returns g c = λ plain ok.
    let n = c.in-Some.first.now in
    let ns = c.in-Some.rest.now in
    HasWritten-append g.W.Write.write_str_gives c.args.f.now c.write.new.self c.write_pointed.new.f
    (dotted_decimal c.args.numbers.now) (natural_numeral n) (flat_map pointed ns)
    (sym (ap dotted_decimal c.in-Some.ensures.cases.0 ∙ dotted_decimal-cons n ns))
    (search rules) (λ after. c.write_pointed.ensures after ok)
