-- For `write::rewrite_unless_canonical`: what it returns is right (`accepts`, `refuses`).
use Rattle.std.proofs.Common.{◌<◌, ◌^◌, length, arith}
use Rattle.asn1_writing.proofs.Checked.{FirstFaultAt-refused, IsDocument-written_accepted, IfOk-written_document}
use Rattle.asn1_writing.proofs.write.rewrite_unless_canonical.Goals as goal

pub returns-clause-accepts : goal.returns-clause-accepts
returns-clause-accepts c =
    let small : length c.args.octets.now < 2 ^ 64 = omega arith in
    let ensured = c.written_unless_canonical.ensures in
    IsDocument-written_accepted c.args.octets.now c.written_unless_canonical.result small ensured.document ensured.fault

pub returns-clause-refuses : goal.returns-clause-refuses
returns-clause-refuses c =
    let small : length c.args.octets.now < 2 ^ 64 = omega arith in
    let ensured = c.written_unless_canonical.ensures in
    FirstFaultAt-refused c.args.octets.now c.written_unless_canonical.result small
    (IfOk-written_document c.args.octets.now c.written_unless_canonical.result ensured.document) ensured.fault
