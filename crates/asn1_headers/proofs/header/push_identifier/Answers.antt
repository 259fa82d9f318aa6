-- For `header::push_identifier`: what it returns is right.
use Rattle.std.proofs.Common.{arith, ◌≡◌, ◌∷◌, [], sym, ap, ◌∙◌, subst}
use Rattle.std.proofs.lemmas.Grind.{common_steps}
use Rattle.asn1_numbers.specs.Base128.{shortest_base128}
use Rattle.asn1_headers.specs.Header.{shortest_identifier, leading_octet}
use Rattle.asn1_headers.proofs.header.push_identifier.Goals as goal

pub returns-in_default : goal.returns-in_default
returns-in_default g c =
    let e : shortest_identifier c.args.class c.args.constructed c.args.tag.now
    ≡ leading_octet c.args.class c.args.constructed 31 ∷ shortest_base128
    c.args.tag.now = grind (arith, common_steps) in
    subst (λ z. g.S.Sink.pushes c.args.out.now z c.push_base128.new.out)
    (ap (λ z. z ∷ shortest_base128 c.args.tag.now) c.leading-in_default.ensures ∙ sym e)
    (g.S.Sink.more c.args.out.now c.push_octet-in_default.new.self c.push_base128.new.out
    (c.leading-in_default.result ∷ []) (shortest_base128 c.args.tag.now)
    c.push_octet-in_default.ensures c.push_base128.ensures)
