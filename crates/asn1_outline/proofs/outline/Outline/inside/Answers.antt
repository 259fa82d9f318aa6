-- For `outline::Outline::inside`: what it returns is right, and the string lies in the document.
use Rattle.std.proofs.Common.{sym, subst}
use Rattle.asn1_outline.specs.InStrings.{HasNoString}
use Rattle.asn1_outline.specs.Shapes.{IsWithin}
use Rattle.asn1_outline.proofs.InsideStrings.{IsWithin-outline}
use Rattle.asn1_outline.proofs.Lent.{get_or-looked_up}
use Rattle.asn1_outline.proofs.outline.Outline.inside.Goals as goal

pub read_string-requires : goal.read_string-requires
read_string-requires c =
    let o = c.args.self.now in
    let (h, is) =
    get_or-looked_up o.entries.items c.deref.result.now c.args.index c.in-Some.entry.now c.deref.ensures.value
    c.in-Some.ensures.lookup.3 in
    subst (IsWithin o.octets.now) (sym is) (IsWithin-outline o.octets.now o.entries.items c.args.index o.document h)

pub returns-in-Some-clause-none : goal.returns-in-Some-clause-none
returns-in-Some-clause-none c none =
    let o = c.args.self.now in
    let (h, is) =
    get_or-looked_up o.entries.items c.deref.result.now c.args.index c.in-Some.entry.now c.deref.ensures.value
    c.in-Some.ensures.lookup.3 in
    c.read_string.ensures.none (subst (HasNoString o.octets.now) (sym is) none)
