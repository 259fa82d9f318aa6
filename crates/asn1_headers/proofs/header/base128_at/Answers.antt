-- For `header::base128_at`: what it returns is right (`refused`, `found`).
use Rattle.std.proofs.Common.{arith, add-one, refl, inr}
use Rattle.std.proofs.lemmas.Grind.{common_steps}
use Rattle.asn1_headers.proofs.HeaderOctets.{IsContinued-take, IsContinued-not_high}
use Rattle.asn1_headers.proofs.header.base128_at.Goals as goal

pub returns-in_default-clause-refused : goal.returns-in_default-clause-refused
returns-in_default-clause-refused c =
    inr (refl, λ n k p. IsContinued-not_high c.args.octets.now k c.in_default.ensures.none p.continued)

pub returns-clause-found : goal.returns-clause-found
returns-clause-found c = (
  omega (arith, c.in-Some.ensures.found.0),
  record {
    continued =
        rw add-one
        (IsContinued-take c.args.octets.now c.in-Some.last c.in-Some.ensures.found.0 c.in-Some.ensures.found.1
        c.in-Some.ensures.before);
    value = grind (arith, common_steps, c.in_ok-n.ensures);
  },
)
