-- For `in_place::is_clearly_shortest`: what it returns is right.
use Rattle.std.proofs.Common.{◌<◌, ◌++◌, ap₂, sym, ◌∙◌, arith}
use Rattle.std.specs.Prelude.{All}
use Rattle.std.proofs.lemmas.Bool.{false≢true}
use Rattle.std.proofs.lemmas.List.Elements.{All-from_get_or}
use Rattle.asn1_writing.proofs.InPlace.{AreHeaderOctets-front, length-header_parts}
use Rattle.asn1_writing.proofs.in_place.is_clearly_shortest.Goals as goal

pub returns-then-has_shortest_identifier : goal.returns-then-has_shortest_identifier
returns-then-has_shortest_identifier c shortest =
    let x = c.args._octets.now in
    let h = c.args.header.now in
    let f = c.requires.front in
    let (identifier, length_80, _) = c.requires.parts f in
    let all : All (λ b. b < 256) x = All-from_get_or (λ b. b < 256) x 0 (λ k _. omega (arith, c.type_inv._octets k)) in
    let p = AreHeaderOctets-front x f.identifier f.len h.size all f.front_is in
    let size = length-header_parts x f.identifier f.len h.size f.within f.front_is in
    let i = c.has_shortest_identifier.ensures f.identifier p.identifier f.fields identifier in
    let l = c.has_shortest_length.ensures f.len p.len f.length_octets (omega (arith, size, identifier)) length_80 in
    record {
      within = f.within;
      shortest = f.front_is ∙ ap₂ (λ s t. s ++ t) (i.0 c.if-has_shortest_identifier.true) (l.0 shortest);
    }

pub returns-else-has_shortest_identifier : goal.returns-else-has_shortest_identifier
returns-else-has_shortest_identifier c shortest =
    absurd (false≢true (sym c.if-has_shortest_identifier.false ∙ shortest))
