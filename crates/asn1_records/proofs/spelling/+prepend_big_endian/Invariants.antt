-- For the cycle `prepend_big_endian` of `spelling`: what grows less, so that it ends.
use Rattle.asn1_records.proofs.spelling.+prepend_big_endian.Given as goal

abbrev pub decreases-prepend_big_endian : goal.decreases-prepend_big_endian
decreases-prepend_big_endian l = l.n
