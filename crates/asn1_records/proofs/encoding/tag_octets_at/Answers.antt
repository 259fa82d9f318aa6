-- For `encoding::tag_octets_at`: what it returns is right.
use Rattle.std.proofs.Common.{arith}
use Rattle.asn1_records.specs.Contents.{tag_octets_were_found}
use Rattle.asn1_records.proofs.encoding.tag_octets_at.Goals as goal

pub returns : goal.returns
returns c =
    let at = c.in-Some.ensures.found in
    let size = c.identifier_size.ensures in
    let (status, count, offset) = c.all_put.ensures in
    tag_octets_were_found status offset c.in-Some.encoding.now at
    (omega (arith, size.size at.encoding, count, size.some))
