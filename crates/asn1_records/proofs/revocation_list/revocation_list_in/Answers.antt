-- For `revocation_list::revocation_list_in`: what it returns is right.
use Rattle.std.proofs.Common.{sym, ap, subst}
use Rattle.asn1_outline.specs.Structure.{IsStructure}
use Rattle.asn1_records.specs.Answers.{IsRefusal}
use Rattle.asn1_records.specs.Fields.{is_one, is_other, was_refused_fields}
use Rattle.asn1_records.specs.RevocationLists.{IsRevocationList}
use Rattle.asn1_records.specs.declared.record.RevocationListAnswer.{RevocationListAnswer}
use Rattle.asn1_records.proofs.Entries.{AreRecords-outline}
use Rattle.asn1_records.proofs.ListFields.{IsRevocationList-found}
use Rattle.asn1_records.proofs.Outcomes.{OrNoMemory-at}
use Rattle.asn1_records.proofs.revocation_list.revocation_list_in.Goals as goal

pub returns-in-Err : goal.returns-in-Err
returns-in-Err c =
    let (status, offset, none) = c.no_fields.ensures in
    was_refused_fields (OrNoMemory-at (IsRefusal c.args.octets.now) _ _ _ _ status offset c.in-Err.ensures.fault) none

pub returns-in-Some : goal.returns-in-Some
returns-in-Some c =
    let x = c.args.octets.now in
    let o = c.in-Ok.outline in
    let found = IsRevocationList-found x o.entries.items c.in-Some.parts c.in-Ok.ensures.document
    (λ ns d. c.in-Some.ensures ns (subst (λ z. IsStructure z ns) (sym c.in-Ok.ensures.lent) d)) in
    is_one (ap (λ (z : RevocationListAnswer). z.status) c.records_of.ensures)
    (ap (λ (z : RevocationListAnswer). z.offset) c.records_of.ensures)
    (subst (IsRevocationList x) (sym c.records_of.ensures) found)

pub returns : goal.returns
returns c =
    let x = c.args.octets.now in
    let (status, offset, none) = c.no_fields-in-None.ensures in
    let (ns, d, are) = AreRecords-outline x c.in-Ok.outline.entries.items c.in-Ok.ensures.document in
    is_other status offset (ns, d, c.in-None.ensures ns (subst (λ z. IsStructure z ns) (sym c.in-Ok.ensures.lent) d))
    none
