-- For `outline::Outline::entries`: what it returns is right (`not_empty`).
use Rattle.std.proofs.Common.{◌<◌, length, sym, subst}
use Rattle.asn1_outline.proofs.Lent.{IsOutline-not_empty}
use Rattle.asn1_outline.proofs.outline.Outline.entries.Goals as goal

pub returns-clause-not_empty : goal.returns-clause-not_empty
returns-clause-not_empty c =
    let o = c.args.self.now in
    subst (λ z. 0 < length z) (sym c.as_slice.ensures.value)
    (IsOutline-not_empty o.octets.now o.entries.items o.document)
