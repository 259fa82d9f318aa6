-- For `put_encodings::put_spelled`: what it returns is right.
use Rattle.asn1_records.specs.Answers.{IsRefusedRecord}
use Rattle.asn1_records.specs.Room.{ArePut, was_found}
use Rattle.asn1_records.proofs.Outcomes.{Answers-refused}
use Rattle.asn1_records.proofs.put_encodings.put_spelled.Goals as goal
use Rattle.std.proofs.Common.{subst}

pub returns-in-Ok : goal.returns-in-Ok
returns-in-Ok c =
    was_found c.in-Ok.spelled.octets.octets c.in-Ok.ensures.spelled
    (subst (λ z. ArePut z c.args.room.now c.put_front.new.room c.put_front.result) c.as_slice.ensures
    c.put_front.ensures)

pub returns-in-Err : goal.returns-in-Err
returns-in-Err c =
    let put = c.nothing_put.ensures in
    Answers-refused _ (IsRefusedRecord c.args.octets.now c.args.records.now) c.args.room.now _ _ _ put.status put.offset
    put.count c.in-Err.ensures.fault
