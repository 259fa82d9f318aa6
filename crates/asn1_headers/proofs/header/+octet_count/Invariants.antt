-- For the cycle `octet_count` of `header`: what grows less, so that it ends.
use Rattle.asn1_headers.proofs.header.+octet_count.Given as goal

abbrev pub decreases-octet_count : goal.decreases-octet_count
decreases-octet_count l = l.n
