-- For `segments::join`: what it returns is right (`refused`).
use Rattle.std.proofs.Common.{◌≡◌, rules}
use Rattle.asn1_headers.specs.declared.tags.TheConstants.{BIT_STRING}
use Rattle.dump_walk.proofs.JoinedSegments.{IfOk-joins_bits}
use Rattle.dump_walk.proofs.segments.join.Goals as goal

pub returns-then-tag-eq-BIT_STRING-clause-refused : goal.returns-then-tag-eq-BIT_STRING-clause-refused
returns-then-tag-eq-BIT_STRING-clause-refused c =
    let three : c.args.tag ≡ BIT_STRING = search rules in
    IfOk-joins_bits c.join_bits.result c.args.tag c.args.joined.now.items c.args.segment.now three
    c.join_bits.ensures.refused
