-- For `header::length_size`: what it returns is right (`most`) and no sum or product is too large.
use Rattle.std.proofs.Common.{arith}
use Rattle.std.proofs.lemmas.Grind.{common_steps}
use Rattle.asn1_headers.proofs.HeaderOctets.{length-octets_le}
use Rattle.asn1_headers.proofs.header.length_size.Goals as goal

pub overflow_add-result : goal.overflow_add-result
overflow_add-result c = grind (arith, common_steps, length-octets_le c.args.n (omega arith))

pub returns-else-n-lt128-clause-most : goal.returns-else-n-lt128-clause-most
returns-else-n-lt128-clause-most c = omega (arith, length-octets_le c.args.n (omega arith), c.octet_count.ensures)
