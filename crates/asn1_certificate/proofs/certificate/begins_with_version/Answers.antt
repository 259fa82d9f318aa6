-- For `certificate::begins_with_version`: what it returns is right.
use Rattle.asn1_certificate.specs.Reading.{left}
use Rattle.asn1_certificate.specs.Sequences.{is_leaf, tagged}
use Rattle.asn1_certificate.proofs.Steps.{Tells-first, Tells-none}
use Rattle.asn1_certificate.proofs.certificate.begins_with_version.Goals as goal

pub returns-in-Some : goal.returns-in-Some
returns-in-Some c ns d =
    Tells-first ns (tagged 0 (is_leaf 2)) _ (left c.args.fields.now) c.in-Some.index c.in-Some.ensures
    (c.is_version.ensures ns d)

pub returns-in-None : goal.returns-in-None
returns-in-None c ns d = Tells-none ns (tagged 0 (is_leaf 2)) _ (left c.args.fields.now) c.in-None.ensures
