-- For `listing::departures`: what it returns is right (`listed`).
use Rattle.std.proofs.Common.{◌<◌, ◌^◌, arith, length, subst, suc, sym}
use Rattle.asn1_der.specs.Departures.{Lists}
use Rattle.asn1_der.proofs.DerLists.{Lists-none_of_der}
use Rattle.asn1_der.proofs.listing.departures.Goals as goal

pub returns-in-Ok-true-clause-listed : goal.returns-in-Ok-true-clause-listed
returns-in-Ok-true-clause-listed c =
    let x = c.args.octets.now in
    let small : length x < 2 ^ 64 = omega arith in
    let der = c.in-Ok-true.ensures.0 c.in-Ok-true.field-0-test in
    subst (Lists 0 0 x) (sym c.new.ensures.items)
    (Lists-none_of_der (suc (length x)) 0 x (omega arith) small (der.items, der.encodings))
