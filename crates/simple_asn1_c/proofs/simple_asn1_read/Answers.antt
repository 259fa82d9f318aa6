-- For `simple_asn1_read`: what it returns is right (`answer`, `few`).
use Rattle.std.proofs.Common.{map, arith}
use Rattle.asn1_records.specs.Answers.{IsRefusal}
use Rattle.asn1_records.specs.Records.{block_of}
use Rattle.asn1_records.specs.Room.{was_found}
use Rattle.asn1_records.proofs.Entries.{AreRecords-outline}
use Rattle.asn1_records.proofs.Outcomes.{Answers-refused}
use Rattle.asn1_records.proofs.TwoEach.{length-structure_le}
use Rattle.simple_asn1_c.proofs.simple_asn1_read.Goals as goal

pub returns-in-Ok-clause-answer : goal.returns-in-Ok-clause-answer
returns-in-Ok-clause-answer c =
    let (bs, all, d, e, found) = c.in-Ok.ensures.document in
    was_found (map block_of all) (AreRecords-outline c.args.octets.now all (bs, d, e))
    (c.put_found.ensures _ all (omega arith) found)

pub returns-in-Ok-clause-few : goal.returns-in-Ok-clause-few
returns-in-Ok-clause-few c ns d = length-structure_le c.args.octets.now ns d

pub returns-in-Err-clause-few : goal.returns-in-Err-clause-few
returns-in-Err-clause-few c ns d = length-structure_le c.args.octets.now ns d

pub returns-in-Err-clause-answer : goal.returns-in-Err-clause-answer
returns-in-Err-clause-answer c =
    let put = c.nothing_put.ensures in
    Answers-refused _ (IsRefusal c.args.octets.now) c.args.blocks.now _ _ _ put.status put.offset put.count
    c.in-Err.ensures.fault
