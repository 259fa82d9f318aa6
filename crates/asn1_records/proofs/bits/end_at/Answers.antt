-- For `bits::end_at`: what it returns is right (`end`, `within`), the sum fits, `unreachable` may be called, and what
-- cannot happen does not.
use Rattle.std.proofs.Common.{length, ap, arith}
use Rattle.asn1_blocks.proofs.Slices.{EncodingAt-unique}
use Rattle.asn1_records.proofs.HeldBits.{EncodingAt-within}
use Rattle.asn1_records.proofs.bits.end_at.Goals as goal

pub unreachable-requires : goal.unreachable-requires
unreachable-requires c = let (x, at) = c.requires in c.in-None.ensures.none x at

pub returns-clause-end : goal.returns-clause-end
returns-clause-end c x at =
    let same = EncodingAt-unique c.args.octets.now c.args.offset c.in-Some.encoding.now x c.in-Some.ensures.found at in
    omega (arith, ap length same)

pub returns-clause-within : goal.returns-clause-within
returns-clause-within c =
    omega (
      arith,
      EncodingAt-within c.args.octets.now c.args.offset c.in-Some.encoding.now c.in-Some.ensures.found,
    )
