-- For `inside::Inside::inside`: what it returns is right, and the string lies in the document around.
use Rattle.std.proofs.Common.{get_or, ap, sym, subst, ◌∙◌, arith}
use Rattle.std.specs.Prelude.{IsSomeAnd}
use Rattle.asn1_headers.specs.Reading.{ReadsEachLocated}
use Rattle.asn1_outline.specs.Entries.{AreEntriesOf, no_entry}
use Rattle.asn1_outline.specs.InStrings.{HasDocumentInString, HasNoString, later}
use Rattle.asn1_outline.specs.Insides.{entries_inside, octets_inside}
use Rattle.asn1_outline.specs.Shapes.{IsWithin}
use Rattle.asn1_outline.proofs.InsideStrings.{IsWithin-later, IsWithin-outline}
use Rattle.asn1_outline.proofs.Lent.{get_or-looked_up}
use Rattle.asn1_outline.proofs.inside.Inside.inside.Goals as goal

pub later-requires : goal.later-requires
later-requires c =
    let o = c.args.self.now in
    let (h, is) =
    get_or-looked_up o.outline.entries.items c.deref.result.now c.args.index c.in-Some.entry.now c.deref.ensures.value
    c.in-Some.ensures.lookup.3 in
    omega (
      arith,
      o.stands.within,
      IsWithin-outline o.outline.octets.now o.outline.entries.items c.args.index o.outline.document h,
      ap (λ z. z.offset) is,
    )

pub read_string-requires : goal.read_string-requires
read_string-requires c =
    let o = c.args.self.now in
    let (h, is) =
    get_or-looked_up o.outline.entries.items c.deref.result.now c.args.index c.in-Some.entry.now c.deref.ensures.value
    c.in-Some.ensures.lookup.3 in
    subst (IsWithin o.document.now) (sym (c.later.ensures ∙ ap (later o.start) is))
    (IsWithin-later o.document.now o.start o.outline.octets.now (get_or o.outline.entries.items c.args.index no_entry)
    o.stands (IsWithin-outline o.outline.octets.now o.outline.entries.items c.args.index o.outline.document h))

pub returns-in-Some-clause-none : goal.returns-in-Some-clause-none
returns-in-Some-clause-none c none =
    let o = c.args.self.now in
    let (h, is) =
    get_or-looked_up o.outline.entries.items c.deref.result.now c.args.index c.in-Some.entry.now c.deref.ensures.value
    c.in-Some.ensures.lookup.3 in
    c.read_string.ensures.none
    (subst (HasNoString o.document.now) (sym (c.later.ensures ∙ ap (later o.start) is)) none)

pub returns-in-Some-clause-accepts : goal.returns-in-Some-clause-accepts
returns-in-Some-clause-accepts c =
    let o = c.args.self.now in
    let (h, is) =
    get_or-looked_up o.outline.entries.items c.deref.result.now c.args.index c.in-Some.entry.now c.deref.ensures.value
    c.in-Some.ensures.lookup.3 in
    subst (λ r. ReadsEachLocated c.read_string.result (HasDocumentInString o.document.now r)
    (λ bs found. IsSomeAnd found (λ inside. AreEntriesOf (octets_inside inside) bs (entries_inside inside))))
    (c.later.ensures ∙ ap (later o.start) is) c.read_string.ensures.accepts
