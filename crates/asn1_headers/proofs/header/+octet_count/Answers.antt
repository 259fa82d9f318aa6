-- For the cycle `octet_count` of `header`: what it returns is right and no sum or product is too large.
use Rattle.std.proofs.Common.{arith, ◌/◌}
use Rattle.std.proofs.lemmas.Grind.{common_steps}
use Rattle.std.proofs.lemmas.Int.Digits.{length-digits_of_step}
use Rattle.asn1_headers.proofs.HeaderOctets.{length-octets_le}
use Rattle.asn1_headers.proofs.header.+octet_count.Goals as goal

pub overflow_add-result : goal.overflow_add-result
overflow_add-result t c = grind (arith, common_steps, length-octets_le (c.args.n / 256) (omega arith))

pub returns : goal.returns
returns t c = grind (arith, common_steps, length-digits_of_step 256 c.args.n (omega arith) (omega arith))
