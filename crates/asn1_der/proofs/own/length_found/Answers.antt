-- For `own::length_found`: what it returns is right.
use Rattle.std.proofs.Common.{◌≡◌, ◌-◌, ◌∙◌, refl, sym}
use Rattle.std.specs.Prelude.{None, Some}
use Rattle.asn1_headers.specs.Header.{shortest_length}
use Rattle.asn1_der.specs.Departures.{Found, kept}
use Rattle.asn1_der.specs.declared.rule.Rule.TheVariants.{LongLength}
use Rattle.asn1_der.proofs.Found.{Found-failed, MatchBool-by_false, MatchBool-by_true}
use Rattle.asn1_der.proofs.own.length_found.Goals as goal

pub returns-then-header : goal.returns-then-header
returns-then-header c id len p = MatchBool-by_true _ _ _ (sym p.length_80 ∙ c.if-header.true) refl

pub returns-then-has_shortest_length : goal.returns-then-has_shortest_length
returns-then-has_shortest_length c id len p =
    let Asked = len ≡ shortest_length (c.args.header.now.end - c.args.header.now.start) in
    MatchBool-by_false _ _ (Found Asked LongLength None) (sym p.length_80 ∙ c.if-header.false)
    (kept ((c.has_shortest_length.ensures len p.length_all p.length_octets p.size_is p.length_80).0
    c.if-has_shortest_length.true))

pub returns-else-has_shortest_length : goal.returns-else-has_shortest_length
returns-else-has_shortest_length c id len p =
    let Asked = len ≡ shortest_length (c.args.header.now.end - c.args.header.now.start) in
    MatchBool-by_false _ _ (Found Asked LongLength (Some LongLength)) (sym p.length_80 ∙ c.if-header.false)
    (Found-failed _ Asked LongLength LongLength refl
    (c.has_shortest_length.ensures len p.length_all p.length_octets p.size_is p.length_80)
    c.if-has_shortest_length.false)
