-- For `read::from_der_located`: what it returns is right (`accepts`, `refuses`).
use Rattle.std.proofs.Common.{◌<◌, ◌^◌, length, arith}
use Rattle.asn1_blocks.proofs.Readings.{IsDocument-accepted_located, FirstFaultAt-refused}
use Rattle.asn1_blocks.proofs.read.from_der_located.Goals as goal

pub returns-clause-accepts : goal.returns-clause-accepts
returns-clause-accepts c =
    let small : length c.args.i.now < 2 ^ 64 = omega arith in
    IsDocument-accepted_located c.args.i.now c.read_uncounted.result small c.read_uncounted.ensures.document
    c.read_uncounted.ensures.refused

pub returns-clause-refuses : goal.returns-clause-refuses
returns-clause-refuses c =
    let small : length c.args.i.now < 2 ^ 64 = omega arith in
    FirstFaultAt-refused c.args.i.now c.read_uncounted.result small c.read_uncounted.ensures.document
    c.read_uncounted.ensures.refused
