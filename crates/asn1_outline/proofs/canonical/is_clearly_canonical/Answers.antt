-- For `canonical::is_clearly_canonical`: what it returns is right, and the entry's encoding is there.
use Rattle.std.proofs.Common.{subst, arith}
use Rattle.asn1_writing.specs.Inner.CanonicalEncoding.{BeginsCanonical}
use Rattle.asn1_outline.proofs.CanonicalEntries.{HasCanonicalAt-front, HasHeaderAt-within}
use Rattle.asn1_outline.proofs.canonical.is_clearly_canonical.Goals as goal

pub split_at-requires : goal.split_at-requires
split_at-requires c = omega (arith, HasHeaderAt-within c.args.octets.now c.args.entry.now c.requires)

pub returns-then-begin_with_frequent : goal.returns-then-begin_with_frequent
returns-then-begin_with_frequent c is_true =
    HasCanonicalAt-front c.args.octets.now c.args.entry.now c.requires
    (subst BeginsCanonical c.split_at.ensures.back (c.begin_with_frequent.ensures c.if-begin_with_frequent.true))
