-- For `rewriting::put_canonical`: what it returns is right.
use Rattle.std.proofs.Common.{◌<◌, ◌∙◌, inr, length, refl, subst}
use Rattle.asn1_records.specs.Answers.{IsRefusal}
use Rattle.asn1_records.specs.Room.{was_found}
use Rattle.asn1_records.proofs.Outcomes.{Answers-refused}
use Rattle.simple_asn1.specs.Canonical.{all_canonical}
use Rattle.asn1_records.proofs.rewriting.put_canonical.Goals as goal

pub returns-then-size-room : goal.returns-then-size-room
returns-then-size-room c =
    let (bs, d, size) = c.in-Ok.ensures.document in
    let (status, count, offset) = c.not_enough.ensures in
    let less = subst (λ z. length c.args.room.now < z) size c.if-size-room.true in
    was_found (all_canonical bs) (bs, d, refl) (count ∙ size, offset, inr (status, less, refl))

pub returns-in-Err : goal.returns-in-Err
returns-in-Err c =
    let put = c.nothing_put.ensures in
    Answers-refused _ (IsRefusal c.args.octets.now) c.args.room.now _ _ _ put.status put.offset put.count
    c.in-Err.ensures.fault
