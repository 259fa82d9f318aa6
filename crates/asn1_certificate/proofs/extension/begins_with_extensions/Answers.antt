-- For `extension::begins_with_extensions`: what it returns is right.
use Rattle.asn1_certificate.specs.Reading.{left}
use Rattle.asn1_certificate.specs.Types.{is_extensions}
use Rattle.asn1_certificate.proofs.Steps.{Tells-first, Tells-none}
use Rattle.asn1_certificate.proofs.extension.begins_with_extensions.Goals as goal

pub returns-in-Some : goal.returns-in-Some
returns-in-Some c ns d =
    Tells-first ns is_extensions _ (left c.args.fields.now) c.in-Some.index c.in-Some.ensures
    (c.is_extensions.ensures ns d)

pub returns-in-None : goal.returns-in-None
returns-in-None c ns d =
    Tells-none ns is_extensions _ (left c.args.fields.now) c.in-None.ensures
