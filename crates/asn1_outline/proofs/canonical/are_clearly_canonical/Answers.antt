-- For `canonical::are_clearly_canonical`: what it returns is right and `is_clearly_canonical` may be called.
use Rattle.std.proofs.Common.{arith}
use Rattle.asn1_outline.proofs.CanonicalEntries.{all_canonical-entries, HasHeaderAt-get_or}
use Rattle.asn1_outline.proofs.canonical.are_clearly_canonical.Goals as goal

pub is_clearly_canonical-requires : goal.is_clearly_canonical-requires
is_clearly_canonical-requires c =
    let (bs, document, are) = c.requires in
    HasHeaderAt-get_or c.args.octets.now bs c.args.entries.now are c.loop-entry.entry-index
    (omega (arith, c.loop-entry-test.true))

pub returns : goal.returns
returns c is_true bs document =
    let (own, read, are) = c.requires in
    all_canonical-entries c.args.octets.now own bs c.args.entries.now are
    (λ k h. c.loop-entry.invariant k (omega (arith, h, c.loop-entry-test.false))) document read
