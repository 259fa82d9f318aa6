-- For `check::check_document`: what it returns is right (`accepts`, `refuses`).
use Rattle.std.proofs.Common.{◌<◌, ◌^◌, length, arith}
use Rattle.asn1_writing.proofs.Checked.{IsDocument-accepted_located, IfOk-checked_document, FirstFaultAt-refused}
use Rattle.asn1_writing.proofs.check.check_document.Goals as goal

pub returns-clause-accepts : goal.returns-clause-accepts
returns-clause-accepts c =
    let small : length c.args.octets.now < 2 ^ 64 = omega arith in
    IsDocument-accepted_located c.args.octets.now c.checked.result small c.checked.ensures.fault

pub returns-clause-refuses : goal.returns-clause-refuses
returns-clause-refuses c =
    let small : length c.args.octets.now < 2 ^ 64 = omega arith in
    FirstFaultAt-refused c.args.octets.now c.checked.result small
    (IfOk-checked_document c.args.octets.now c.checked.result c.checked.ensures.document) c.checked.ensures.fault
