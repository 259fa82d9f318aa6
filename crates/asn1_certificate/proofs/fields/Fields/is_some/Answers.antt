-- For `fields::Fields::is_some`: what it returns is right.
use Rattle.std.proofs.Common.{◌∙◌}
use Rattle.asn1_certificate.proofs.Steps.{some-left}
use Rattle.asn1_certificate.proofs.fields.Fields.is_some.Goals as goal

pub returns : goal.returns
returns c = c.is_some.ensures ∙ some-left c.args.self.now.next c.args.self.now.others
