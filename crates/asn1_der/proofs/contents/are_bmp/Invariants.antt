-- For `contents::are_bmp`: what each turn of its loop keeps and what grows less, so that it ends.
use Rattle.std.proofs.Common.{◌≡◌, length}
use Rattle.asn1_der.specs.Contents.{are_bmp}
use Rattle.asn1_der.proofs.contents.are_bmp.Given as goal

-- the octets are those of a BMPString exactly if those that are left are
abbrev pub invariant-loop-rest : goal.invariant-loop-rest
invariant-loop-rest l = are_bmp l.contents ≡ are_bmp l.rest

abbrev pub decreases-loop-rest : goal.decreases-loop-rest
decreases-loop-rest l = length l.rest
