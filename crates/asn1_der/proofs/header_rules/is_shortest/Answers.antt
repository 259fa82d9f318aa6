-- For `header_rules::is_shortest`: what it returns is right.
use Rattle.std.proofs.Common.{sym, ◌∙◌}
use Rattle.std.proofs.lemmas.Bool.{false≢true}
use Rattle.asn1_der.proofs.header_rules.is_shortest.Goals as goal

pub returns-then-has_shortest_identifier : goal.returns-then-has_shortest_identifier
returns-then-has_shortest_identifier c id len p =
    let i = c.has_shortest_identifier.ensures id p.identifier_all p.identifier_octets p.identifier_size in
    let l = c.has_shortest_length.ensures len p.length_all p.length_octets p.size_is p.length_80 in
    (λ t. record { identifier_is = i.0 c.if-has_shortest_identifier.true; len_is = l.0 t }, λ s. l.1 s.len_is)

pub returns-else-has_shortest_identifier : goal.returns-else-has_shortest_identifier
returns-else-has_shortest_identifier c id len p =
    let i = c.has_shortest_identifier.ensures id p.identifier_all p.identifier_octets p.identifier_size in (
      λ t. absurd (false≢true (sym c.if-has_shortest_identifier.false ∙ t)),
      λ s. i.1 s.identifier_is,
    )
