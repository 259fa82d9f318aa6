-- For `inside::Inside::entry`: what it returns is right, and no offset is too great.
use Rattle.std.proofs.Common.{get_or, ap, ◌∙◌, arith}
use Rattle.asn1_outline.specs.Entries.{no_entry}
use Rattle.asn1_outline.specs.InStrings.{later}
use Rattle.asn1_outline.specs.Shapes.{contents_octets, encoding_octets}
use Rattle.asn1_outline.proofs.InsideStrings.{IsWithin-outline, contents_octets-later, encoding_octets-later}
use Rattle.asn1_outline.proofs.Lent.{get_or-looked_up}
use Rattle.asn1_outline.proofs.inside.Inside.entry.Goals as goal

pub later-requires : goal.later-requires
later-requires c =
    let o = c.args.self.now in
    let y = o.outline.octets.now in
    let es = o.outline.entries.items in
    let (h, is) =
    get_or-looked_up es c.deref.result.now c.args.index c.in_ok-entry.entry.now c.deref.ensures.value
    c.in_ok-entry.ensures.lookup.3 in
    omega (
      arith,
      o.stands.within,
      IsWithin-outline y es c.args.index o.outline.document h,
      ap (λ z. z.offset) is,
    )

pub returns-clause-encoding : goal.returns-clause-encoding
returns-clause-encoding c =
    let o = c.args.self.now in
    let x = o.document.now in
    let y = o.outline.octets.now in
    let es = o.outline.entries.items in
    let (h, is) =
    get_or-looked_up es c.deref.result.now c.args.index c.in_ok-entry.entry.now c.deref.ensures.value
    c.in_ok-entry.ensures.lookup.3 in
    let within = IsWithin-outline y es c.args.index o.outline.document h in
    ap (encoding_octets x) (c.later.ensures ∙ ap (later o.start) is)
    ∙ encoding_octets-later x o.start y (get_or es c.args.index no_entry) o.stands within

pub returns-clause-contents : goal.returns-clause-contents
returns-clause-contents c =
    let o = c.args.self.now in
    let x = o.document.now in
    let y = o.outline.octets.now in
    let es = o.outline.entries.items in
    let (h, is) =
    get_or-looked_up es c.deref.result.now c.args.index c.in_ok-entry.entry.now c.deref.ensures.value
    c.in_ok-entry.ensures.lookup.3 in
    let within = IsWithin-outline y es c.args.index o.outline.document h in
    ap (contents_octets x) (c.later.ensures ∙ ap (later o.start) is)
    ∙ contents_octets-later x o.start y (get_or es c.args.index no_entry) o.stands within
