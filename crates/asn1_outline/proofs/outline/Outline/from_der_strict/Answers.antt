-- For `outline::Outline::from_der_strict`: what it returns is right (`accepts`, `refuses`).
use Rattle.std.proofs.Common.{arith}
use Rattle.asn1_outline.proofs.StrictOutlines.{CanonicalDocument-outline_accepted, StrictFaultAt-outline_refused}
use Rattle.asn1_outline.proofs.outline.Outline.from_der_strict.Goals as goal

pub returns-clause-accepts : goal.returns-clause-accepts
returns-clause-accepts c =
    let read = c.canonical_outline.ensures in
    CanonicalDocument-outline_accepted c.args.octets.now c.canonical_outline.result
    (omega arith) read.document read.fault

pub returns-clause-refuses : goal.returns-clause-refuses
returns-clause-refuses c =
    let read = c.canonical_outline.ensures in
    StrictFaultAt-outline_refused c.args.octets.now c.canonical_outline.result (omega arith) read.document read.fault
