-- For `header::is_least_identifier`: what it returns is right.
use Rattle.std.proofs.Common.{ap, eqb-true, length, arith}
use Rattle.asn1_headers.proofs.HeaderSizes.{shortest_identifier-size}
use Rattle.asn1_headers.proofs.header.is_least_identifier.Goals as goal

pub returns : goal.returns
returns c octets all is size =
    let fewest = shortest_identifier-size octets c.args.class c.args.constructed c.args.tag.now all is in (
      λ t. fewest.0 (omega (
        arith,
        eqb-true c.args.size c.identifier_size.result t,
        size,
        c.identifier_size.ensures,
      )),
      λ e. grind (arith, size, c.identifier_size.ensures, ap length e),
    )
