-- For `contents::are_universal`: what each turn of its loop keeps and what grows less, so that it ends.
use Rattle.std.proofs.Common.{◌≡◌, length}
use Rattle.asn1_der.specs.Contents.{are_universal}
use Rattle.asn1_der.proofs.contents.are_universal.Given as goal

-- the octets are those of a UniversalString exactly if those that are left are
abbrev pub invariant-loop-rest : goal.invariant-loop-rest
invariant-loop-rest l = are_universal l.contents ≡ are_universal l.rest

abbrev pub decreases-loop-rest : goal.decreases-loop-rest
decreases-loop-rest l = length l.rest
