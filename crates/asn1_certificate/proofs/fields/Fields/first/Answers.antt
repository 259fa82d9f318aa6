-- For `fields::Fields::first`: what it returns is right.
use Rattle.asn1_certificate.proofs.Steps.{first-left}
use Rattle.asn1_certificate.proofs.fields.Fields.first.Goals as goal

pub returns : goal.returns
returns c = first-left c.args.self.now.next c.args.self.now.others
