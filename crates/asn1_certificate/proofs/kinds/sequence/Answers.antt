-- For `kinds::sequence`: what it returns is right.
use Rattle.asn1_certificate.proofs.EntryTrees.{sequence-found}
use Rattle.asn1_certificate.proofs.kinds.sequence.Goals as goal

pub returns : goal.returns
returns c ns d = sequence-found ns c.args.index c.group.result (c.group.ensures ns d)
