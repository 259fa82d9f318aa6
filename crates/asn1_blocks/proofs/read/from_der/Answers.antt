-- For `read::from_der`: what it returns is right (`document`, `accepts`, `refuses`, `fault`).
use Rattle.std.proofs.Common.{Ok, Err, Vec, Global, arith}
use Rattle.asn1_blocks.specs.declared.block.ASN1Block.{ASN1Block}
use Rattle.asn1_blocks.proofs.Readings.{IsDocument-accepted, FirstFault-refused, FirstFault-without_place}
use Rattle.asn1_blocks.proofs.read.from_der.Goals as goal

pub returns-in-Ok-clause-document : goal.returns-in-Ok-clause-document
returns-in-Ok-clause-document c = c.in-Ok.ensures.document

pub returns-in-Ok-clause-accepts : goal.returns-in-Ok-clause-accepts
returns-in-Ok-clause-accepts c =
    IsDocument-accepted c.args.i.now (Ok c.in-Ok.document) (omega arith) c.in-Ok.ensures.document tt

pub returns-in-Ok-clause-refuses : goal.returns-in-Ok-clause-refuses
returns-in-Ok-clause-refuses c =
    FirstFault-refused c.args.i.now (Ok c.in-Ok.document) (omega arith) (_, c.in-Ok.ensures.document) tt

pub returns-in-Err-clause-fault : goal.returns-in-Err-clause-fault
returns-in-Err-clause-fault c =
    FirstFault-without_place c.args.i.now c.in-Err.refusal.error c.in-Err.refusal.offset c.in-Err.ensures.refused

pub returns-in-Err-clause-accepts : goal.returns-in-Err-clause-accepts
returns-in-Err-clause-accepts c =
    IsDocument-accepted c.args.i.now (Err c.in-Err.refusal.error) (omega arith) tt
    (FirstFault-without_place c.args.i.now c.in-Err.refusal.error c.in-Err.refusal.offset c.in-Err.ensures.refused)

pub returns-in-Err-clause-refuses : goal.returns-in-Err-clause-refuses
returns-in-Err-clause-refuses c =
    FirstFault-refused {A = Vec ASN1Block Global} c.args.i.now (Err c.in-Err.refusal.error) (omega arith) tt
    (FirstFault-without_place c.args.i.now c.in-Err.refusal.error c.in-Err.refusal.offset c.in-Err.ensures.refused)
