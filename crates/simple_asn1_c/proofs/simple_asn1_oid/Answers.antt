-- For `simple_asn1_oid`: what it returns is right (`few`).
use Rattle.std.proofs.Common.{◌<◌, arith}
use Rattle.std.proofs.lemmas.List.Elements.{All-from_get_or}
use Rattle.asn1_records.proofs.Rooms.{count-identifier_le}
use Rattle.simple_asn1_c.proofs.simple_asn1_oid.Goals as goal

pub returns-clause-few : goal.returns-clause-few
returns-clause-few c =
    count-identifier_le c.args.octets.now c.args.offset c.args.room.now c.identifier_at.new.room c.identifier_at.result
    (All-from_get_or (λ b. b < 256) c.args.octets.now 0 (λ k h. omega (arith, c.type_inv.octets k)))
    c.identifier_at.ensures
