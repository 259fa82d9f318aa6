-- For `header::split_identifier`: what it returns is right.
use Rattle.std.proofs.Common.{◌≡◌, ap, length, refl, subst, sym, take, ◌∙◌}
use Rattle.std.proofs.lemmas.List.{take_at}
use Rattle.asn1_headers.specs.Header.{IsSomeIdentifier}
use Rattle.asn1_headers.proofs.Prefixes.{IsSomeIdentifier-front}
use Rattle.asn1_headers.proofs.header.split_identifier.Goals as goal

pub returns-in-Some : goal.returns-in-Some
returns-in-Some c identifier behind tag is whole =
    let (some, within, number, found) = c.in-Some.ensures.found in
    let both = IsSomeIdentifier-front c.args.octets.now identifier behind tag number c.in-Some.size is whole found in
    (c.split_at.ensures.front ∙ both.0, c.split_at.ensures.back ∙ both.1)

pub returns-in-None : goal.returns-in-None
returns-in-None c identifier behind tag is whole =
    let size = length identifier in
    let e : take size c.args.octets.now ≡ identifier = ap (take size) whole ∙ take_at identifier behind size refl in
    absurd (c.in-None.ensures.none tag size (subst (λ z. IsSomeIdentifier z tag) (sym e) is))
