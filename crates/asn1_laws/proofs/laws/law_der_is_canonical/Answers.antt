-- For `laws::law_der_is_canonical`: what it returns is right.
use Rattle.asn1_laws.proofs.Documents.{IsDer-canonical_iff_plain}
use Rattle.asn1_laws.proofs.laws.law_der_is_canonical.Goals as goal

pub returns : goal.returns
returns c = record { canonical = IsDer-canonical_iff_plain }
