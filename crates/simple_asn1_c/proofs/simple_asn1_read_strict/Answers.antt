-- For `simple_asn1_read_strict`: what it returns is right.
use Rattle.std.proofs.Common.{arith}
use Rattle.std.specs.Prelude.{map}
use Rattle.asn1_records.specs.Answers.{IsRefusedStrict}
use Rattle.asn1_records.specs.Records.{block_of}
use Rattle.asn1_records.specs.Room.{was_found}
use Rattle.asn1_records.proofs.Entries.{AreRecords-canonical}
use Rattle.asn1_records.proofs.Outcomes.{Answers-refused}
use Rattle.simple_asn1_c.proofs.simple_asn1_read_strict.Goals as goal

pub returns-in-Ok : goal.returns-in-Ok
returns-in-Ok c =
    let (bs, all, d, e, found) = c.in-Ok.ensures.document in
    was_found (map block_of all) (AreRecords-canonical c.args.octets.now all (bs, d, e))
    (c.put_found.ensures _ all (omega (arith, c.max.ensures)) found)

pub returns-in-Err : goal.returns-in-Err
returns-in-Err c =
    let put = c.nothing_put.ensures in
    Answers-refused _ (IsRefusedStrict c.args.octets.now) c.args.blocks.now _ _ _ put.status put.offset put.count
    c.in-Err.ensures.fault
