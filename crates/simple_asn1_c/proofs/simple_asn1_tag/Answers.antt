-- For `simple_asn1_tag`: what it returns is right (`few`).
use Rattle.asn1_records.proofs.Rooms.{count-tag_le}
use Rattle.simple_asn1_c.proofs.simple_asn1_tag.Goals as goal

pub returns-clause-few : goal.returns-clause-few
returns-clause-few c =
    count-tag_le c.args.octets.now c.args.offset c.args.room.now c.put_tag.new.room c.put_tag.result c.put_tag.ensures
