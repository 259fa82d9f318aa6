-- For `own::identifier_found`: what it returns is right.
use Rattle.std.proofs.Common.{ap, sym, ◌∙◌}
use Rattle.std.specs.Prelude.{if◌then◌else◌}
use Rattle.asn1_der.specs.Departures.{kept}
use Rattle.asn1_der.specs.declared.rule.Rule.TheVariants.{LongIdentifier, PaddedTag}
use Rattle.asn1_der.proofs.Found.{Found-failed}
use Rattle.asn1_der.proofs.own.identifier_found.Goals as goal

pub returns-then-has_shortest_identifier : goal.returns-then-has_shortest_identifier
returns-then-has_shortest_identifier c id len p =
    kept ((c.has_shortest_identifier.ensures id p.identifier_all p.identifier_octets p.identifier_size).0
    c.if-has_shortest_identifier.true)

pub returns-then-is_low : goal.returns-then-is_low
returns-then-is_low c id len p =
    Found-failed _ _ _ LongIdentifier
    (ap (λ b. if b then LongIdentifier else PaddedTag) (sym c.is_low.ensures ∙ c.if-is_low.true))
    (c.has_shortest_identifier.ensures id p.identifier_all p.identifier_octets p.identifier_size)
    c.if-has_shortest_identifier.false

pub returns-else-is_low : goal.returns-else-is_low
returns-else-is_low c id len p =
    Found-failed _ _ _ PaddedTag
    (ap (λ b. if b then LongIdentifier else PaddedTag) (sym c.is_low.ensures ∙ c.if-is_low.false))
    (c.has_shortest_identifier.ensures id p.identifier_all p.identifier_octets p.identifier_size)
    c.if-has_shortest_identifier.false
