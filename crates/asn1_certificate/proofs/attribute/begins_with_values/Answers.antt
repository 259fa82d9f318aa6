-- For `attribute::begins_with_values`: what it returns is right.
use Rattle.asn1_certificate.specs.Reading.{left}
use Rattle.asn1_certificate.specs.Sequences.{set_of_some}
use Rattle.asn1_certificate.specs.Types.{is_any}
use Rattle.asn1_certificate.proofs.Steps.{Tells-first, Tells-none}
use Rattle.asn1_certificate.proofs.attribute.begins_with_values.Goals as goal

pub returns-in-Some : goal.returns-in-Some
returns-in-Some c ns d =
    Tells-first ns (set_of_some is_any) _ (left c.args.fields.now) c.in-Some.index c.in-Some.ensures
    (c.are_values.ensures ns d)

pub returns-in-None : goal.returns-in-None
returns-in-None c ns d =
    Tells-none ns (set_of_some is_any) _ (left c.args.fields.now) c.in-None.ensures
