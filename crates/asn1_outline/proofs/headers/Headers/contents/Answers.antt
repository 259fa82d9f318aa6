-- For `headers::Headers::contents`: what it returns is right (`found`, `none`), and the octets lie in the document.
use Rattle.std.proofs.Common.{length, ap, arith, ◌∙◌}
use Rattle.asn1_outline.specs.Shapes.{contents_octets}
use Rattle.asn1_outline.proofs.Lent.{get_or-looked_up}
use Rattle.asn1_outline.proofs.ShapesWithin.{IsWithin-looked_up}
use Rattle.asn1_outline.proofs.headers.Headers.contents.Goals as goal

pub contents_in-requires : goal.contents_in-requires
contents_in-requires c =
    let o = c.args.self.now in
    IsWithin-looked_up o.octets.now o.entries.items c.deref.result.now c.args.index c.in-Some.entry.now o.walked
    c.deref.ensures.value c.in-Some.ensures.lookup.3

pub returns-in_default-clause-found : goal.returns-in_default-clause-found
returns-in_default-clause-found c h =
    absurd (omega (arith, h, c.in_default.ensures.lookup.3, ap length c.deref.ensures.value))

pub returns-clause-found : goal.returns-clause-found
returns-clause-found c h =
    let o = c.args.self.now in
    let (_, equal) =
    get_or-looked_up o.entries.items c.deref.result.now c.args.index c.in-Some.entry.now c.deref.ensures.value
    c.in-Some.ensures.lookup.3 in
    c.contents_in.ensures ∙ ap (contents_octets o.octets.now) equal

pub returns-clause-none : goal.returns-clause-none
returns-clause-none c h = absurd (omega (arith, h, c.in-Some.ensures.lookup.3.0, ap length c.deref.ensures.value))
