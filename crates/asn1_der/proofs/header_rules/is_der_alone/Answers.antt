-- For `header_rules::is_der_alone`: what it returns is right (`right`, `needed`).
use Rattle.std.proofs.Common.{◌-◌, ◌<◌, ◌^◌, arith, length, subst, sym}
use Rattle.std.proofs.lemmas.List.Elements.{All-from_get_or}
use Rattle.std.specs.List.{slice_range}
use Rattle.asn1_blocks.proofs.PlacedHeaders.{length-slice_range-at_header}
use Rattle.asn1_blocks.proofs.ReadSteps.{length-slice_range}
use Rattle.asn1_der.specs.Steps.{HasShortest}
use Rattle.asn1_der.proofs.Shortest.{HasParts-found, HasShortest-encoding, IsShortest-parts}
use Rattle.asn1_der.proofs.header_rules.is_der_alone.Goals as goal

pub returns-then-is_shortest-clause-right : goal.returns-then-is_shortest-clause-right
returns-then-is_shortest-clause-right c right =
    let x = c.args.octets.now in
    let h = c.args.header.now in
    let f = c.requires.found in
    let v = slice_range x h.start h.end in
    let all = All-from_get_or (λ b. b < 256) x 0 (λ k h. omega (arith, c.type_inv.octets k)) in
    let parts = HasParts-found x c.args._offset c.args._limit h f all c.requires.within in
    let size = length-slice_range x h.start h.end f.order (omega (arith, f.ends_within, c.requires.within)) in
    let shortest = (c.is_shortest.ensures f.encoding.identifier f.encoding.len parts).0 c.if-is_shortest.true in (
      IsShortest-parts (slice_range x c.args._offset h.end) h.class h.constructed h.tag v (h.start - c.args._offset)
          f.encoding
          (subst (HasShortest f.encoding.identifier f.encoding.len h.class h.constructed h.tag) (sym size) shortest),
      c.is_right.ensures.right right,
    )

pub returns-else-is_shortest-clause-needed : goal.returns-else-is_shortest-clause-needed
returns-else-is_shortest-clause-needed c whole =
    let x = c.args.octets.now in
    let h = c.args.header.now in
    let f = c.requires.found in
    let within = c.requires.within in
    let v = slice_range x h.start h.end in
    let small : length x < 2 ^ 64 = omega arith in
    let all = All-from_get_or (λ b. b < 256) x 0 (λ k h. omega (arith, c.type_inv.octets k)) in
    let parts = HasParts-found x c.args._offset c.args._limit h f all within in
    let size = length-slice_range x h.start h.end f.order (omega (arith, f.ends_within, within)) in
    let part = length-slice_range-at_header x c.args._offset c.args._limit h f within in
    let shortest = HasShortest-encoding (slice_range x c.args._offset h.end) h.class h.constructed h.tag v
    (h.start - c.args._offset) f.encoding (omega (arith, part, small, f.ends_within, within)) whole.alone.0 in
    (c.is_shortest.ensures f.encoding.identifier f.encoding.len parts).1
    (subst (HasShortest f.encoding.identifier f.encoding.len h.class h.constructed h.tag) size shortest)
