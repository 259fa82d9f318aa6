-- For `document_entries::check_strict`: what it returns is right (`document`).
use Rattle.asn1_records.proofs.document_entries.check_strict.Goals as goal

pub returns-in-Ok-clause-document : goal.returns-in-Ok-clause-document
returns-in-Ok-clause-document c =
    let (bs, all, d, e, found) = c.requires in
    (bs, (d, c.in-Ok.ensures.canonical bs d))
