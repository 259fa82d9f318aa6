-- For `attribute::begins_with_attributes`: what it returns is right.
use Rattle.asn1_certificate.specs.Reading.{left}
use Rattle.asn1_certificate.specs.Types.{tagged_attributes}
use Rattle.asn1_certificate.proofs.Steps.{Tells-first, Tells-none}
use Rattle.asn1_certificate.proofs.attribute.begins_with_attributes.Goals as goal

pub returns-in-Some : goal.returns-in-Some
returns-in-Some c ns held d h =
    Tells-first ns (tagged_attributes held c.args.tag) _ (left c.args.fields.now) c.in-Some.index c.in-Some.ensures
    (c.is_tagged.ensures ns held d h)

pub returns-in-None : goal.returns-in-None
returns-in-None c ns held d h =
    Tells-none ns (tagged_attributes held c.args.tag) _ (left c.args.fields.now) c.in-None.ensures
