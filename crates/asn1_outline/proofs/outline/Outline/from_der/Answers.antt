-- For `outline::Outline::from_der`: what it returns is right (`accepts`, `refuses`) and its result keeps the
-- invariant of its type.
use Rattle.std.proofs.Common.{◌<◌, ◌^◌, Err, length, arith}
use Rattle.asn1_blocks.proofs.Readings.{IsDocument-accepted_located, FirstFaultAt-refused}
use Rattle.asn1_outline.proofs.Answered.{IsOutline-no_fault, AreEntriesOf-any_trees}
use Rattle.std.proofs.lemmas.Grind.{merely}
use Rattle.asn1_outline.proofs.outline.Outline.from_der.Goals as goal

pub returns-in-Ok-clause-accepts : goal.returns-in-Ok-clause-accepts
returns-in-Ok-clause-accepts c bs d =
    AreEntriesOf-any_trees c.args.octets.now c.in-Ok.entries.items bs c.in-Ok.ensures.document d

pub returns-in-Ok-clause-refuses : goal.returns-in-Ok-clause-refuses
returns-in-Ok-clause-refuses c fault o p =
    let small : length c.args.octets.now < 2 ^ 64 = omega arith in
    IsOutline-no_fault c.args.octets.now c.in-Ok.entries.items fault o small c.in-Ok.ensures.document p

pub returns-in-Err-clause-accepts : goal.returns-in-Err-clause-accepts
returns-in-Err-clause-accepts c =
    let small : length c.args.octets.now < 2 ^ 64 = omega arith in
    IsDocument-accepted_located c.args.octets.now (Err c.in-Err.located) small tt c.in-Err.ensures.refused

pub returns-in-Err-clause-refuses : goal.returns-in-Err-clause-refuses
returns-in-Err-clause-refuses c =
    let small : length c.args.octets.now < 2 ^ 64 = omega arith in
    FirstFaultAt-refused c.args.octets.now (Err c.in-Err.located) small tt c.in-Err.ensures.refused

pub invariant_of-result : goal.invariant_of-result
invariant_of-result c = record { document = merely c.in-Ok.ensures.document }
