-- For `encoding::put_header`: what it returns is right.
use Rattle.std.proofs.lemmas.Option.{MatchOption-at_some}
use Rattle.simple_asn1.specs.Places.{HasNoEncodingAt}
use Rattle.asn1_records.specs.Contents.{IsHeaderAt, header_was_found}
use Rattle.asn1_records.proofs.encoding.put_header.Goals as goal

pub returns-in-Ok-Some : goal.returns-in-Ok-Some
returns-in-Ok-Some c =
    let x = c.args.octets.now in
    let r = c.in-Ok-Some.block in
    header_was_found r (MatchOption-at_some (HasNoEncodingAt x c.args.offset) (IsHeaderAt x c.args.offset) r
    c.in-Ok-Some.field-0-is c.in-Ok-Some.ensures) c.put_front.ensures
