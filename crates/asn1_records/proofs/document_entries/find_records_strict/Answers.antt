-- For `document_entries::find_records_strict`: what was found is of the document, and what it returns is right
-- (`document`, `fault`).
use Rattle.std.proofs.Common.{inl, inr, subst}
use Rattle.asn1_outline.specs.Entries.{AreEntriesOf}
use Rattle.asn1_records.proofs.document_entries.find_records_strict.Goals as goal

pub check_strict-requires : goal.check_strict-requires
check_strict-requires c =
    let (bs, all, d, e, found) = c.in-Ok.ensures.document in
    (bs, all, d, e, (c.args.room, found))

pub returns-in-Ok-check_strict-clause-document : goal.returns-in-Ok-check_strict-clause-document
returns-in-Ok-check_strict-clause-document c =
    let x = c.args.octets.now in
    let (bs, all, d, e, found) = c.in-Ok.ensures.document in
    let (cs, canonical) = c.in-Ok-check_strict.ensures.document in
    let same = c.law_one_reading.ensures.one_document x bs cs d canonical.0 in
    (cs, all, canonical, subst (λ z. AreEntriesOf x z all) same e, found)

pub returns-in-Err-clause-fault : goal.returns-in-Err-clause-fault
returns-in-Err-clause-fault c =
    elim c.in-Err.ensures.fault [ inl memory ↦ inl memory | inr refused ↦ inr (inl refused) ]
