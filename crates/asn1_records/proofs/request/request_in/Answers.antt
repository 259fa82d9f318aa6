-- For `request::request_in`: what it returns is right.
use Rattle.std.proofs.Common.{sym, ap, subst}
use Rattle.asn1_outline.specs.Structure.{IsStructure}
use Rattle.asn1_records.specs.Answers.{IsRefusal}
use Rattle.asn1_records.specs.Fields.{is_one, is_other, was_refused_fields}
use Rattle.asn1_records.specs.Requests.{IsRequest}
use Rattle.asn1_records.specs.declared.record.RequestAnswer.{RequestAnswer}
use Rattle.asn1_records.proofs.Entries.{AreRecords-outline}
use Rattle.asn1_records.proofs.HeldTrees.{AreHeld-held_in, held_in}
use Rattle.asn1_records.proofs.Outcomes.{OrNoMemory-at}
use Rattle.asn1_records.proofs.RequestFields.{IsRequest-found}
use Rattle.asn1_records.proofs.request.request_in.Goals as goal

pub returns-in-Err : goal.returns-in-Err
returns-in-Err c =
    let (status, offset, none) = c.no_fields.ensures in
    was_refused_fields (OrNoMemory-at (IsRefusal c.args.octets.now) _ _ _ _ status offset c.in-Err.ensures.fault) none

pub returns-in-Some : goal.returns-in-Some
returns-in-Some c =
    let x = c.args.octets.now in
    let o = c.in-Ok.outline in
    let found = IsRequest-found x o.entries.items c.in-Some.parts c.in-Ok.ensures.document
    (λ ns held d h. c.in-Some.ensures ns held (subst (λ z. IsStructure z ns) (sym c.in-Ok.ensures.lent) d) h) in
    is_one (ap (λ (z : RequestAnswer). z.status) c.records_of.ensures)
    (ap (λ (z : RequestAnswer). z.offset) c.records_of.ensures)
    (subst (IsRequest x) (sym c.records_of.ensures) found)

pub returns : goal.returns
returns c =
    let x = c.args.octets.now in
    let (status, offset, none) = c.no_fields-in-None.ensures in
    let (ns, d, are) = AreRecords-outline x c.in-Ok.outline.entries.items c.in-Ok.ensures.document in
    let h = AreHeld-held_in x ns d in
    let other = c.in-None.ensures ns (held_in ns) (subst (λ z. IsStructure z ns) (sym c.in-Ok.ensures.lent) d) h in
    is_other status offset (ns, d, held_in ns, h, other) none
