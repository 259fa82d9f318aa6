-- For `size::canonical_size`: what it returns is right (`accepts`, `refuses`).
use Rattle.std.proofs.Common.{◌<◌, ◌^◌, length, arith}
use Rattle.asn1_writing.proofs.Checked.{FirstFaultAt-refused, IfOk-sized_document, IsDocument-sized_accepted}
use Rattle.asn1_writing.proofs.size.canonical_size.Goals as goal

pub returns-clause-accepts : goal.returns-clause-accepts
returns-clause-accepts c =
    let small : length c.args.octets.now < 2 ^ 64 = omega arith in
    IsDocument-sized_accepted c.args.octets.now c.sized.result small c.sized.ensures.document c.sized.ensures.fault

pub returns-clause-refuses : goal.returns-clause-refuses
returns-clause-refuses c =
    let small : length c.args.octets.now < 2 ^ 64 = omega arith in
    FirstFaultAt-refused c.args.octets.now c.sized.result small
    (IfOk-sized_document c.args.octets.now c.sized.result c.sized.ensures.document) c.sized.ensures.fault
