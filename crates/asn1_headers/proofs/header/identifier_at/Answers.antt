-- For `header::identifier_at`: what it returns is right (`found`, `none`).
use Rattle.std.proofs.Common.{arith, subst, sym}
use Rattle.asn1_headers.specs.Header.{BeginsWithNo, IsSomeIdentifier}
use Rattle.asn1_headers.proofs.HeaderOctets.{IsContinued-not_high, BeginsWithNo-long_identifier}
use Rattle.asn1_headers.proofs.Identifiers.{IsSomeIdentifier-short, IsSomeIdentifier-long}
use Rattle.asn1_headers.proofs.header.identifier_at.Goals as goal

pub returns-then-first-ne31-clause-found : goal.returns-then-first-ne31-clause-found
returns-then-first-ne31-clause-found c =
    let e = c.in-Some.ensures.cases in
    let p = IsSomeIdentifier-short c.args.octets.now c.in-Some.rest.now c.in-Some.first.now e.0 (omega arith)
    c.if-first-ne31.true in
    (omega arith, omega (arith, e.1), p.0, p.1)

pub returns-in_default-last_octet_at-clause-none :
    goal.returns-in_default-last_octet_at-clause-none
returns-in_default-last_octet_at-clause-none c =
    subst (BeginsWithNo IsSomeIdentifier) (sym c.in-Some.ensures.cases.0)
    (BeginsWithNo-long_identifier c.in-Some.first.now c.in-Some.rest.now c.if-first-ne31.false
    (λ n k p. IsContinued-not_high c.in-Some.rest.now k c.in_default-last_octet_at.ensures.none p.continued))

pub returns-clause-found : goal.returns-clause-found
returns-clause-found c =
    let e = c.in-Some.ensures.cases in
    let f = c.in-Some-last_octet_at.ensures in
    let p = IsSomeIdentifier-long c.args.octets.now c.in-Some.rest.now c.in-Some.first.now c.in-Some-last_octet_at.last
    e.0 (omega arith) c.if-first-ne31.false f.found.0 f.found.1 f.before in
    (omega arith, omega (arith, e.1, f.found.0), p.0, p.1)
