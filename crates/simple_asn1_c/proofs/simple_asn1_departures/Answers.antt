-- For `simple_asn1_departures`: what it returns is right (`answer`, `none`).
use Rattle.std.proofs.Common.{ap, map}
use Rattle.asn1_records.specs.Departures.{IsNoEncodings, departure_record}
use Rattle.asn1_records.specs.Room.{was_found}
use Rattle.asn1_records.proofs.ListedDepartures.{count-none_iff_der}
use Rattle.asn1_records.proofs.Outcomes.{Answers-refused}
use Rattle.simple_asn1_c.proofs.simple_asn1_departures.Goals as goal

pub returns-in-Ok-clause-answer : goal.returns-in-Ok-clause-answer
returns-in-Ok-clause-answer c =
    let listed = c.in-Ok.ensures in
    was_found (map departure_record c.as_slice.result.now)
    (c.in-Ok.found.items, listed.listed, listed.none, ap (map departure_record) c.as_slice.ensures.value)
    c.put_records.ensures

pub returns-in-Ok-clause-none : goal.returns-in-Ok-clause-none
returns-in-Ok-clause-none c =
    count-none_iff_der c.args.octets.now c.args.records.now c.put_records.new.room c.put_records.result
    (returns-in-Ok-clause-answer c)

pub returns-in-Err-clause-answer : goal.returns-in-Err-clause-answer
returns-in-Err-clause-answer c =
    let put = c.nothing_put.ensures in
    Answers-refused _ (IsNoEncodings c.args.octets.now) c.args.records.now _ _ _ put.status put.offset put.count
    c.in-Err.ensures.fault

pub returns-in-Err-clause-none : goal.returns-in-Err-clause-none
returns-in-Err-clause-none c =
    count-none_iff_der c.args.octets.now c.args.records.now c.args.records.now c.nothing_put.result
    (returns-in-Err-clause-answer c)
