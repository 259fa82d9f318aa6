-- For `header_walk::list_headers_within`: what each turn of its loop keeps and what grows less, so that it ends.
use Rattle.std.proofs.Common.{length}
use Rattle.asn1_blocks.specs.Inner.ReaderSteps.{work_left}
use Rattle.asn1_outline.specs.Walking.{IsWalking}
use Rattle.asn1_outline.proofs.header_walk.list_headers_within.Given as goal

abbrev pub invariant-turns : goal.invariant-turns
invariant-turns l = record { reading : IsWalking l.octets l.reader }

abbrev pub decreases-turns : goal.decreases-turns
decreases-turns l = work_left (length l.octets) l.reader.index l.reader.outer.items
