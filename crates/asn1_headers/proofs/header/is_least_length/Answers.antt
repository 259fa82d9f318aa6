-- For `header::is_least_length`: what it returns is right.
use Rattle.std.proofs.Common.{ap, eqb-true, length, arith}
use Rattle.asn1_headers.proofs.HeaderSizes.{is_indefinite-several, shortest_length-size}
use Rattle.asn1_headers.proofs.header.is_least_length.Goals as goal

pub returns : goal.returns
returns c len all is size form =
    let several = is_indefinite-several len c.args.n is (λ one. omega (arith, one, size, c.if-size-eq1.false)) in (
      λ t. shortest_length-size len c.args.n all is several (omega (
        arith,
        eqb-true c.args.size c.length_size.result t,
        size,
        c.length_size.ensures.size,
      )),
      λ e. grind (arith, size, c.length_size.ensures.size, ap length e),
    )
