-- For `convert::signed::read_signed`: what it returns is right (`content`, `content_alone`, `shape`, `accepts`,
-- `refuses`).
use Rattle.std.proofs.Common.{◌<◌, ◌^◌, length, arith}
use Rattle.std.proofs.lemmas.Grind.{common_steps}
use Rattle.simple_asn1.proofs.SignedTriples.{MatchResult-signed, IsErrAnd-another_shape, IsDocument-rebased_content, HasOctets-read_content, IfErr-another_shape}
use Rattle.simple_asn1.proofs.convert.signed.read_signed.Goals as goal

pub returns-clause-content : goal.returns-clause-content
returns-clause-content c =
    HasOctets-read_content c.law_one_reading.ensures c.args.v.now c.der_decode.result c.der_decode.ensures.decoded

pub returns-clause-content_alone : goal.returns-clause-content_alone
returns-clause-content_alone c =
    IsDocument-rebased_content c.law_one_reading.ensures c.law_slices.ensures c.args.v.now c.der_decode.result
    c.der_decode.ensures.decoded

pub returns-clause-shape : goal.returns-clause-shape
returns-clause-shape c =
    IfErr-another_shape c.law_slices.ensures c.args.v.now c.der_decode.result c.der_decode.ensures.refused

pub returns-clause-accepts : goal.returns-clause-accepts
returns-clause-accepts c =
    let small : length c.args.v.now < 2 ^ 64 = grind (arith, common_steps) in
    MatchResult-signed c.law_one_reading.ensures c.law_slices.ensures c.args.v.now small c.der_decode.result
    c.der_decode.ensures.decoded c.der_decode.ensures.refused

pub returns-clause-refuses : goal.returns-clause-refuses
returns-clause-refuses c shape =
    let small : length c.args.v.now < 2 ^ 64 = grind (arith, common_steps) in
    IsErrAnd-another_shape c.law_one_reading.ensures c.args.v.now small c.der_decode.result c.der_decode.ensures.decoded
    c.der_decode.ensures.refused shape
