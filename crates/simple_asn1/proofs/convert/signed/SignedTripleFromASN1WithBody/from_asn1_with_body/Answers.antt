-- For `convert::signed::SignedTripleFromASN1WithBody::from_asn1_with_body`: what it returns is right.
use Rattle.std.proofs.Common.{rules}
use Rattle.simple_asn1.proofs.convert.signed.SignedTripleFromASN1WithBody.from_asn1_with_body.Goals as goal

pub returns : goal.returns
returns c = search rules
