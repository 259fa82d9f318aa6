-- For `laws::law_der_is_read`: what it returns is right.
use Rattle.asn1_laws.proofs.Refused.{IsFaultOfDer-document}
use Rattle.asn1_laws.proofs.laws.law_der_is_read.Goals as goal

pub returns : goal.returns
returns c = record { refused = IsFaultOfDer-document }
