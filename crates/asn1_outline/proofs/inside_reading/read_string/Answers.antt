-- For `inside_reading::read_string`: what it returns is right, and keeps the invariant of its type.
use Rattle.std.proofs.Common.{◌+◌, ◌<◌, ◌^◌, length, sym, ap, subst, ◌∙◌, arith}
use Rattle.asn1_blocks.specs.Grammar.{FirstFaultAt, IsDocument}
use Rattle.asn1_outline.specs.Entries.{AreEntriesOf, IsOutline}
use Rattle.asn1_outline.specs.InStrings.{HasString, StandsAt}
use Rattle.asn1_outline.proofs.InsideStrings.{FirstFaultInString-located, FirstFaultInString-only, HasString-unique, StandsAt-string}
use Rattle.asn1_outline.proofs.inside_reading.read_string.Goals as goal

pub returns-in_default-clause-accepts : goal.returns-in_default-clause-accepts
returns-in_default-clause-accepts c bs (s, y, h, d) = absurd (c.in_default.ensures s y h)

pub returns-in_default-clause-refuses : goal.returns-in_default-clause-refuses
returns-in_default-clause-refuses c fault o (s, y, p, h, f, at) = absurd (c.in_default.ensures s y h)

pub returns-in-Ok-clause-string : goal.returns-in-Ok-clause-string
returns-in-Ok-clause-string c =
    subst (HasString c.args.document.now c.args.entry.now c.in-Some.start) (sym c.in-Ok.ensures.lent)
    c.in-Some.ensures.1

pub returns-in-Ok-clause-document : goal.returns-in-Ok-clause-document
returns-in-Ok-clause-document c =
    let o = c.in-Ok.outline in
    subst (λ z. IsOutline z o.entries.items) (sym c.in-Ok.ensures.lent) c.in-Ok.ensures.document

pub returns-in-Ok-clause-none : goal.returns-in-Ok-clause-none
returns-in-Ok-clause-none c none = absurd (none _ _ c.in-Some.ensures.1)

pub returns-in-Ok-clause-accepts : goal.returns-in-Ok-clause-accepts
returns-in-Ok-clause-accepts c bs (s, y, h, d) =
    let o = c.in-Ok.outline in
    let (_, same) = HasString-unique c.args.document.now c.args.entry.now s c.in-Some.start y _ h c.in-Some.ensures.1 in
    subst (λ z. AreEntriesOf z bs o.entries.items) (sym c.in-Ok.ensures.lent)
    (c.in-Ok.ensures.accepts bs (subst (λ z. IsDocument z bs) same d))

pub returns-in-Ok-clause-refuses : goal.returns-in-Ok-clause-refuses
returns-in-Ok-clause-refuses c fault o (s, y, p, h, f, at) =
    let (_, same) = HasString-unique c.args.document.now c.args.entry.now s c.in-Some.start y _ h c.in-Some.ensures.1 in
    absurd (c.in-Ok.ensures.refuses fault p (subst (λ z. FirstFaultAt z fault p) same f))

pub returns-in-Err-clause-none : goal.returns-in-Err-clause-none
returns-in-Err-clause-none c none = absurd (none _ _ c.in-Some.ensures.1)

pub returns-in-Err-clause-fault : goal.returns-in-Err-clause-fault
returns-in-Err-clause-fault c =
    let x = c.args.document.now in
    let r = c.args.entry.now in
    let s = c.in-Some.start in
    let small : length x < 2 ^ 64 = omega arith in
    let h = c.in-Some.ensures.1 in
    FirstFaultInString-located x r s _ c.in-Err.located c.saturating_add.result h
    (StandsAt-string x r s _ c.requires c.in-Some.ensures.0 h) small c.saturating_add.ensures c.in-Err.ensures.fault

pub returns-in-Err-clause-accepts : goal.returns-in-Err-clause-accepts
returns-in-Err-clause-accepts c bs (s, y, h, d) =
    let (_, same) = HasString-unique c.args.document.now c.args.entry.now s c.in-Some.start y _ h c.in-Some.ensures.1 in
    c.in-Err.ensures.accepts bs (subst (λ z. IsDocument z bs) same d)

pub returns-in-Err-clause-refuses : goal.returns-in-Err-clause-refuses
returns-in-Err-clause-refuses c fault o (s, y, p, h, f, at) =
    let x = c.args.document.now in
    let r = c.args.entry.now in
    let t = c.in-Some.start in
    let own = c.in-Some.ensures.1 in
    let (first, same) = HasString-unique x r s t y _ h own in
    let small : length x < 2 ^ 64 = omega arith in
    let g = subst (λ z. FirstFaultAt z fault p) same f in
    FirstFaultInString-only x t _ c.in-Err.located c.saturating_add.result fault p o
    (StandsAt-string x r t _ c.requires c.in-Some.ensures.0 own) small g (at ∙ ap (λ n. n + p) first)
    c.saturating_add.ensures (c.in-Err.ensures.refuses fault p g)

pub invariant_of-result : goal.invariant_of-result
invariant_of-result c =
    let x = c.args.document.now in
    let r = c.args.entry.now in
    let s = c.in-Some.start in
    record {
      stands = subst (StandsAt x s) (sym c.in-Ok.ensures.lent)
          (StandsAt-string x r s _ c.requires c.in-Some.ensures.0 c.in-Some.ensures.1);
    }
