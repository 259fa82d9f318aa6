-- For `order::has_less_tag`: what it returns is right.
use Rattle.std.proofs.Common.{subst, sym}
use Rattle.asn1_headers.specs.Header.{IsIdentifier}
use Rattle.asn1_der.proofs.Tags.{IsFront-identifier, HasLessTag-fields}
use Rattle.asn1_der.proofs.order.has_less_tag.Goals as goal

pub returns : goal.returns
returns c first next =
    let x = c.args.first.now in
    let y = c.args.next.now in
    let i = c.identifier_of.ensures first.encoding.identifier (IsFront-identifier x first) in
    let j = c.identifier_of-2.ensures next.encoding.identifier (IsFront-identifier y next) in
    HasLessTag-fields x y first next c.is_less_identifier.result
    (c.is_less_identifier.ensures first.class next.class first.constructed next.constructed first.tag next.tag
    (subst (λ z. IsIdentifier z first.class first.constructed first.tag) (sym i) first.encoding.identifier_octets)
    (subst (λ z. IsIdentifier z next.class next.constructed next.tag) (sym j) next.encoding.identifier_octets))
