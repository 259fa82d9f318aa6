-- For `faithful::stays_as_it_came`: what it returns is right.
use Rattle.std.proofs.Common.{rules}
use Rattle.asn1_blocks.proofs.faithful.stays_as_it_came.Goals as goal

pub returns : goal.returns
returns c = search rules
