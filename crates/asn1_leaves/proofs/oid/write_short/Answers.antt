-- For `oid::write_short`: what it returns is right.
use Rattle.std.proofs.Common.{◌≡◌, ◌<◌, ◌∷◌, ◌++◌, arith, rules, sym, ap, ◌∙◌}
use Rattle.std.specs.Prelude.{decimal}
use Rattle.std.specs.List.{flat_map}
use Rattle.asn1_leaves.specs.DottedDecimal.{dotted_decimal}
use Rattle.asn1_leaves.specs.Inner.IdentifierForms.{components_of, first_component, numbers_after, pointed, second_component}
use Rattle.asn1_leaves.proofs.DottedNumbers.{append-decimal-dotted, HasWritten-append}
use Rattle.asn1_leaves.proofs.IdentifierForms.{first_component-AreFirstTwo, second_component-AreFirstTwo}
use Rattle.asn1_leaves.proofs.oid.write_short.Goals as goal

pub returns : goal.returns
returns g c = λ plain ok.
    let b = c.in-Some.octet.now in
    let rest = c.in-Some.rest.now in
    let x = c.first_two-first.result.0 in
    let y = c.first_two-first.result.1 in
    let e : c.args.contents.now ≡ b ∷ rest = c.in-Some.ensures.cases.0 in
    let first : first_component b ≡ x = first_component-AreFirstTwo x y b c.first_two-first.ensures in
    let second : second_component b ≡ y = second_component-AreFirstTwo x y b c.first_two-first.ensures in
    let low : x < 256 = omega arith in
    let low_second : y < 256 = omega arith in
    let components : x ∷ y ∷ numbers_after 0 rest ≡ components_of c.args.contents.now = sym (ap components_of e ∙ cc) in
    let text = append-decimal-dotted x y (numbers_after 0 rest) low low_second ∙ ap dotted_decimal components in
    HasWritten-append g.W.Write.write_str_gives c.args.f.now c.write.new.self c.write_subidentifiers.new.f
    (dotted_decimal (components_of c.args.contents.now)) (decimal x ++ 46 ∷ decimal y)
    (flat_map pointed (numbers_after 0 rest)) text (search rules)
    (λ after. c.write_subidentifiers.ensures after ok)
