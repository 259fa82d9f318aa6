-- For `canonical::is_clearly_canonical_by_fields`: what it returns is right.
use Rattle.asn1_outline.proofs.CanonicalEntries.{HasCanonicalAt-not_universal}
use Rattle.asn1_outline.proofs.canonical.is_clearly_canonical_by_fields.Goals as goal

pub returns-in_default : goal.returns-in_default
returns-in_default c is_true =
    HasCanonicalAt-not_universal c.args.octets.now c.args.entry.now
    (c.is_clearly_shortest.ensures c.if-not-is_clearly_shortest.false)
    c.in_default.not-Universal
