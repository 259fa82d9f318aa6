-- For `order::identifier_of`: what it returns is right.
use Rattle.std.proofs.Common.{◌≡◌, ap, refl, drop, length, take, sym, ◌∙◌, subst}
use Rattle.std.proofs.lemmas.List.{take-append-drop, take_at}
use Rattle.asn1_headers.specs.Header.{IsSomeIdentifier}
use Rattle.asn1_headers.proofs.Prefixes.{IsIdentifier-unique}
use Rattle.asn1_der.proofs.order.identifier_of.Goals as goal

pub returns-in-Some : goal.returns-in-Some
returns-in-Some c identifier front =
    let octets = c.args.octets.now in
    let size = c.in-Some.size in
    let (class, constructed, is) = front.is in
    let (some, within, number, (other, bit, found)) = c.in-Some.ensures.found in
    let same =
    IsIdentifier-unique (take size octets) identifier (drop size octets) front.rest other class bit constructed number
    front.tag found is (take-append-drop size octets ∙ front.whole)
    in
    c.split_at.ensures.front ∙ same.octets

pub returns-in-None : goal.returns-in-None
returns-in-None c identifier front =
    let size = length identifier in
    let e : take size c.args.octets.now ≡ identifier =
    ap (take size) front.whole ∙ take_at identifier front.rest size refl in
    absurd (c.in-None.ensures.none front.tag size (subst (λ z. IsSomeIdentifier z front.tag) (sym e) front.is))
