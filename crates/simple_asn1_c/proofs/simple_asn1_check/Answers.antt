-- For `simple_asn1_check`: what it returns is right.
use Rattle.asn1_records.specs.Answers.{IsRefusal, is_document, is_no_document}
use Rattle.asn1_records.proofs.Outcomes.{OrNoMemory-at}
use Rattle.simple_asn1_c.proofs.simple_asn1_check.Goals as goal

pub returns-in-Ok : goal.returns-in-Ok
returns-in-Ok c =
    let (bs, d) = c.in-Ok.ensures.document in
    let (status, count, offset) = c.all_put.ensures in
    is_document status offset count bs d

pub returns-in-Err : goal.returns-in-Err
returns-in-Err c =
    let put = c.nothing_put.ensures in
    is_no_document
    (OrNoMemory-at (IsRefusal c.args.octets.now) _ _ _ _ put.status put.offset c.in-Err.ensures.fault) put.count
