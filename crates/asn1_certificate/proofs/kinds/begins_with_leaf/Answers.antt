-- For `kinds::begins_with_leaf`: what it returns is right.
use Rattle.asn1_certificate.specs.Reading.{left}
use Rattle.asn1_certificate.specs.Sequences.{is_leaf}
use Rattle.asn1_certificate.proofs.Steps.{Tells-first, Tells-none}
use Rattle.asn1_certificate.proofs.kinds.begins_with_leaf.Goals as goal

pub returns-in-Some : goal.returns-in-Some
returns-in-Some c ns d =
    Tells-first ns (is_leaf c.args.tag) _ (left c.args.fields.now) c.in-Some.index c.in-Some.ensures
    (c.is_leaf.ensures ns d)

pub returns-in-None : goal.returns-in-None
returns-in-None c ns d = Tells-none ns (is_leaf c.args.tag) _ (left c.args.fields.now) c.in-None.ensures
