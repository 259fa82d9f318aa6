-- For `inside::Inside::entries`: no offset is too great, and what it returns is right.
use Rattle.std.proofs.Common.{◌+◌, ◌<◌, ◌^◌, length, map, ap, sym, subst, ◌∙◌, arith}
use Rattle.std.specs.List.{All}
use Rattle.asn1_outline.specs.InStrings.{later}
use Rattle.asn1_outline.proofs.InsideStrings.{All-later}
use Rattle.asn1_outline.proofs.inside.Inside.entries.Goals as goal

pub over-requires : goal.over-requires
over-requires c =
    let o = c.args.self.now in
    let small : length o.document.now < 2 ^ 64 = omega arith in
    subst (All (λ r. o.start + r.offset < 2 ^ 64)) (sym c.as_slice.ensures.value)
    (All-later o.document.now o.start o.outline.octets.now o.outline.entries.items o.stands small o.outline.document)

pub returns : goal.returns
returns c = c.over.ensures ∙ ap (map (later c.args.self.now.start)) c.as_slice.ensures.value
