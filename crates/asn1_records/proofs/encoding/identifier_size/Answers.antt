-- For `encoding::identifier_size`: what it returns is right (`size`), `unreachable` may be called, and what cannot
-- happen does not.
use Rattle.asn1_records.proofs.Headers.{length-front_identifier, IsEncoding-has_identifier}
use Rattle.asn1_records.proofs.encoding.identifier_size.Goals as goal

pub unreachable-requires : goal.unreachable-requires
unreachable-requires c = IsEncoding-has_identifier c.args.encoding.now c.requires c.in-None.ensures.none

pub returns-clause-size : goal.returns-clause-size
returns-clause-size c is =
    let (some, within, tag, (class, constructed, identifier)) = c.in-Some.ensures.found in
    length-front_identifier c.args.encoding.now c.in-Some.size tag class constructed is within identifier
