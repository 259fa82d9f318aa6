-- For `simple_asn1_values`: what it returns is right.
use Rattle.std.proofs.Common.{◌<◌, length, map, inr, refl, ◌∙◌, sym, arith}
use Rattle.std.proofs.lemmas.List.{length-map}
use Rattle.std.proofs.lemmas.Option.{MatchOption-at_none, MatchOption-at_some}
use Rattle.simple_asn1.specs.Shapes.{entries_of}
use Rattle.asn1_records.specs.Answers.{IsRefusedByHeader}
use Rattle.asn1_records.specs.Paths.{value_of}
use Rattle.asn1_records.specs.Room.{was_found}
use Rattle.asn1_records.specs.declared.record.Path.{Path}
use Rattle.asn1_records.specs.declared.record.Value.{Value}
use Rattle.asn1_records.proofs.Outcomes.{Answers-refused}
use Rattle.simple_asn1_c.proofs.simple_asn1_values.Goals as goal

pub returns-in-Ok-Some : goal.returns-in-Ok-Some
returns-in-Ok-Some c =
    let (all, has, m) = c.in-Ok-Some.ensures.document in
    let is = MatchOption-at_some _ _ c.in-Ok-Some.found c.in-Ok-Some.field-0-is m in
    was_found c.deref.result.now (all, has, c.deref.ensures.value ∙ is) c.put_front.ensures

pub returns-in-Ok-None : goal.returns-in-Ok-None
returns-in-Ok-None c =
    let paths = c.args.paths.now in
    let (all, has, m) = c.in-Ok-None.ensures.document in
    let value : Path → Value = λ p. value_of c.args.octets.now (entries_of 0 0 all) c.args.steps.now p in
    let few : length c.args.values.now < length paths = MatchOption-at_none _ _ c.in-Ok-None.field-0-is m in
    let size = length-map paths value in
    let (status, count, offset) = c.not_enough.ensures in
    was_found (map value paths) (all, has, refl)
    (count ∙ sym size, offset, inr (status, omega (arith, few, count, size), refl))

pub returns-in-Err : goal.returns-in-Err
returns-in-Err c =
    let put = c.nothing_put.ensures in
    Answers-refused _ (IsRefusedByHeader c.args.octets.now) c.args.values.now _ _ _ put.status put.offset put.count
    c.in-Err.ensures.fault
