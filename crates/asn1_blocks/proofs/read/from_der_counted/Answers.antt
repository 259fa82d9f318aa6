-- For `read::from_der_counted`: what it returns is right (`accepts`, `refuses`, `fault`, `counted`, `grown`,
-- `bounded`).
use Rattle.std.proofs.Common.{Ok, Err, Vec, Global, arith}
use Rattle.asn1_blocks.specs.declared.block.ASN1Block.{ASN1Block}
use Rattle.asn1_blocks.proofs.Readings.{IsDocument-accepted, FirstFault-refused, FirstFault-without_place}
use Rattle.asn1_blocks.proofs.read.from_der_counted.Goals as goal

pub returns-in-Ok-clause-accepts : goal.returns-in-Ok-clause-accepts
returns-in-Ok-clause-accepts c =
    IsDocument-accepted c.args.i.now (Ok c.in-Ok.blocks) (omega (arith, c.requires)) c.in-Ok.ensures.document tt

pub returns-in-Ok-clause-refuses : goal.returns-in-Ok-clause-refuses
returns-in-Ok-clause-refuses c =
    FirstFault-refused c.args.i.now (Ok c.in-Ok.blocks) (omega (arith, c.requires)) (_, c.in-Ok.ensures.document) tt

pub returns-in-Err-clause-fault : goal.returns-in-Err-clause-fault
returns-in-Err-clause-fault c =
    FirstFault-without_place c.args.i.now c.in-Err.located.error c.in-Err.located.offset c.in-Err.ensures.refused

pub returns-in-Err-clause-accepts : goal.returns-in-Err-clause-accepts
returns-in-Err-clause-accepts c =
    IsDocument-accepted c.args.i.now (Err c.in-Err.located.error) (omega (arith, c.requires)) tt
    (FirstFault-without_place c.args.i.now c.in-Err.located.error c.in-Err.located.offset c.in-Err.ensures.refused)

pub returns-in-Err-clause-refuses : goal.returns-in-Err-clause-refuses
returns-in-Err-clause-refuses c =
    FirstFault-refused {A = Vec ASN1Block Global} c.args.i.now (Err c.in-Err.located.error)
    (omega (arith, c.requires)) tt
    (FirstFault-without_place c.args.i.now c.in-Err.located.error c.in-Err.located.offset c.in-Err.ensures.refused)

pub returns-in-Ok-clause-counted : goal.returns-in-Ok-clause-counted
returns-in-Ok-clause-counted c = c.in-Ok.ensures.counted

pub returns-in-Ok-clause-grown : goal.returns-in-Ok-clause-grown
returns-in-Ok-clause-grown c = c.in-Ok.ensures.grown

pub returns-in-Ok-clause-bounded : goal.returns-in-Ok-clause-bounded
returns-in-Ok-clause-bounded c = c.in-Ok.ensures.bounded

pub returns-in-Err-clause-counted : goal.returns-in-Err-clause-counted
returns-in-Err-clause-counted c = c.in-Err.ensures.counted

pub returns-in-Err-clause-grown : goal.returns-in-Err-clause-grown
returns-in-Err-clause-grown c = c.in-Err.ensures.grown

pub returns-in-Err-clause-bounded : goal.returns-in-Err-clause-bounded
returns-in-Err-clause-bounded c = c.in-Err.ensures.bounded
