-- For the cycle `push_big_endian` of `header`: what grows less, so that it ends.
use Rattle.asn1_headers.proofs.header.+push_big_endian.Given as goal

abbrev pub decreases-push_big_endian : goal.decreases-push_big_endian
decreases-push_big_endian g l = l.n
