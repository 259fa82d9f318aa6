-- For `simple_asn1_dotted`: what it returns is right (`few`).
use Rattle.std.proofs.Common.{◌<◌, arith}
use Rattle.std.proofs.lemmas.List.Elements.{All-from_get_or}
use Rattle.asn1_records.proofs.Rooms.{count-dotted_le}
use Rattle.simple_asn1_c.proofs.simple_asn1_dotted.Goals as goal

pub returns-clause-few : goal.returns-clause-few
returns-clause-few c =
    count-dotted_le c.args.contents.now c.args.room.now c.put_dotted.new.room c.put_dotted.result
    (All-from_get_or (λ b. b < 256) c.args.contents.now 0 (λ k h. omega (arith, c.type_inv.contents k)))
    c.put_dotted.ensures
