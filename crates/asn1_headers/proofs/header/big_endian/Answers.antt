-- For `header::big_endian`: no sum or product is too large.
use Rattle.std.proofs.Common.{arith}
use Rattle.asn1_headers.proofs.HeaderOctets.{room_for_octet}
use Rattle.asn1_headers.proofs.header.big_endian.Goals as goal

pub overflow_mul-n : goal.overflow_mul-n
overflow_mul-n c = omega (arith, room_for_octet c.loop-b.n c.loop-b.b-index c.loop-b.invariant.small (omega arith))
