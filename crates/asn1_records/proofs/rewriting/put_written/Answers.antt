-- For `rewriting::put_written`: what it returns is right.
use Rattle.std.proofs.Common.{◌∙◌}
use Rattle.std.proofs.lemmas.Option.{MatchOption-at_some, MatchOption-at_none}
use Rattle.asn1_records.specs.Answers.{IsRefusal}
use Rattle.asn1_records.specs.Room.{was_found}
use Rattle.asn1_records.proofs.Outcomes.{Answers-refused}
use Rattle.asn1_records.proofs.rewriting.put_written.Goals as goal

pub returns-in-Ok-Some : goal.returns-in-Ok-Some
returns-in-Ok-Some c =
    let (bs, d, m) = c.in-Ok-Some.ensures.document in
    let e = MatchOption-at_some _ _ c.in-Ok-Some.canonical c.in-Ok-Some.field-0-is m in
    was_found c.deref.result.now (bs, d, c.deref.ensures.value ∙ e) c.put_front.ensures

pub returns-in-Ok-None : goal.returns-in-Ok-None
returns-in-Ok-None c =
    let (bs, d, m) = c.in-Ok-None.ensures.document in
    was_found c.args.octets.now (bs, d, MatchOption-at_none _ _ c.in-Ok-None.field-0-is m)
    c.put_front-in-Ok-None.ensures

pub returns-in-Err : goal.returns-in-Err
returns-in-Err c =
    let put = c.nothing_put.ensures in
    Answers-refused _ (IsRefusal c.args.octets.now) c.args.room.now _ _ _ put.status put.offset put.count
    c.in-Err.ensures.fault
