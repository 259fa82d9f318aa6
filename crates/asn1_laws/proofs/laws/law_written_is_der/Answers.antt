-- For `laws::law_written_is_der`: what it returns is right.
use Rattle.asn1_laws.proofs.Written.{IsDer-all_canonical, IsDer-canonical}
use Rattle.asn1_laws.proofs.laws.law_written_is_der.Goals as goal

pub returns : goal.returns
returns c = record { one = IsDer-canonical; joined = IsDer-all_canonical }
