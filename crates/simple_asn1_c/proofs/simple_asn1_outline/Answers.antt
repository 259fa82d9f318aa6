-- For `simple_asn1_outline`: what it returns is right (`answer`, `few`).
use Rattle.std.proofs.Common.{map, refl, arith}
use Rattle.simple_asn1.specs.Shapes.{entries_of}
use Rattle.asn1_records.specs.Answers.{IsRefusedByHeader}
use Rattle.asn1_records.specs.Records.{block_of}
use Rattle.asn1_records.specs.Room.{was_found}
use Rattle.asn1_records.proofs.Outcomes.{Answers-refused}
use Rattle.asn1_records.proofs.TwoEachHeader.{length-entries_le}
use Rattle.simple_asn1_c.proofs.simple_asn1_outline.Goals as goal

pub returns-in-Ok-clause-answer : goal.returns-in-Ok-clause-answer
returns-in-Ok-clause-answer c =
    let (all, has, found) = c.in-Ok.ensures.document in
    was_found (map block_of (entries_of 0 0 all)) (all, has, refl)
    (c.put_found.ensures _ (entries_of 0 0 all) (omega arith) found)

pub returns-in-Err-clause-answer : goal.returns-in-Err-clause-answer
returns-in-Err-clause-answer c =
    let put = c.nothing_put.ensures in
    Answers-refused _ (IsRefusedByHeader c.args.octets.now) c.args.blocks.now _ _ _ put.status put.offset put.count
    c.in-Err.ensures.fault

pub returns-in-Ok-clause-few : goal.returns-in-Ok-clause-few
returns-in-Ok-clause-few c all has = length-entries_le c.args.octets.now all has

pub returns-in-Err-clause-few : goal.returns-in-Err-clause-few
returns-in-Err-clause-few c all has = length-entries_le c.args.octets.now all has
