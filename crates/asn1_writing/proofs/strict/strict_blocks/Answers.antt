-- For `strict::strict_blocks`: what it returns is right (`fault`).
use Rattle.std.proofs.Common.{rules}
use Rattle.asn1_writing.proofs.strict.strict_blocks.Goals as goal

pub returns-in-Ok-Some-clause-fault : goal.returns-in-Ok-Some-clause-fault
returns-in-Ok-Some-clause-fault c = search rules
