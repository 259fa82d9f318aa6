-- For `simple_asn1_write`: what it returns is right.
use Rattle.std.proofs.Common.{inl, inr, sym, subst, ◌∙◌}
use Rattle.asn1_records.specs.Answers.{IsRefusedWriting}
use Rattle.asn1_records.specs.Room.{was_found, was_refused}
use Rattle.asn1_records.specs.Spelled.{AreSpelled}
use Rattle.asn1_records.proofs.Outcomes.{Answers-refused}
use Rattle.simple_asn1_c.proofs.simple_asn1_write.Goals as goal

pub returns-then-spelled : goal.returns-then-spelled
returns-then-spelled c =
    let (bs, (d, w)) = c.in-Ok.ensures.canonical c.if-spelled.true in
    was_found c.as_slice.result.now
    (c.in-Ok.spelled.octets.octets, c.in-Ok.ensures.spelled, bs, d, c.as_slice.ensures ∙ w) c.put_front.ensures

pub returns : goal.returns
returns c =
    let s = c.as_slice-2 in
    let is = subst (AreSpelled c.args.octets.now c.args.blocks.now) (sym s.ensures) c.in-Ok.ensures.spelled in
    elim c.put_canonical.ensures [
      | was_found written (bs, d, w) put ↦ was_found written (s.result.now, is, bs, d, w) put
      | was_refused why none same ↦
          was_refused (elim why [ inl memory ↦ inl memory | inr e ↦ inr (inr (s.result.now, is, e)) ]) none same
    ]

pub returns-in-Err : goal.returns-in-Err
returns-in-Err c =
    let put = c.nothing_put.ensures in
    Answers-refused _ (IsRefusedWriting c.args.octets.now c.args.blocks.now) c.args.room.now _ _ _ put.status
    put.offset put.count
    (elim c.in-Err.ensures.fault [ inl m ↦ inl m | inr bad ↦ inr (inl bad) ])
