-- For `attribute::is_tagged`: what it returns is right.
use Rattle.std.proofs.Common.{sym, ◌∙◌}
use Rattle.asn1_certificate.specs.Types.{is_attribute}
use Rattle.asn1_certificate.proofs.attribute.is_tagged.Goals as goal

pub returns-in-Some : goal.returns-in-Some
returns-in-Some c ns held d h = c.are_attributes.ensures ns d ∙ sym (c.in-Some.ensures.set ns held d h is_attribute)

pub returns-in-None : goal.returns-in-None
returns-in-None c ns held d h = sym (c.in-None.ensures.set ns held d h is_attribute)
