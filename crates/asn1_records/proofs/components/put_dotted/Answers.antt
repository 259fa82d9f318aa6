-- For `components::put_dotted`: what it returns is right.
use Rattle.std.proofs.Common.{◌≤◌, length, inl, inr, ◌∙◌, arith}
use Rattle.asn1_records.specs.Contents.{had_no_memory_for_components, mean_components, mean_no_components}
use Rattle.asn1_records.specs.Values.{most_in_decimal}
use Rattle.asn1_records.proofs.components.put_dotted.Goals as goal

pub returns-in-Ok : goal.returns-in-Ok
returns-in-Ok c =
    let (ns, meant, put) = c.in-Ok.ensures.put in
    inl (omega (arith, c.if-contents-gt-MOST_IN_DECIMAL.false), mean_components ns meant put)

pub returns-in-Err : goal.returns-in-Err
returns-in-Err c =
    let put = c.nothing_put-in-Err.ensures in
    let few : length c.args.contents.now ≤ most_in_decimal = omega (arith, c.if-contents-gt-MOST_IN_DECIMAL.false) in
    let (kept, why) = c.in-Err.ensures.refused in
    elim why [
      | inl memory ↦
          inl (few, had_no_memory_for_components (put.status ∙ memory, put.offset, put.count, kept))
      | inr (f, fault, outcome) ↦
          inl (few, mean_no_components f fault (put.status ∙ outcome, put.offset, put.count, kept))
    ]
