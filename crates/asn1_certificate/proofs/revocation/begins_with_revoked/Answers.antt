-- For `revocation::begins_with_revoked`: what it returns is right.
use Rattle.asn1_certificate.specs.Reading.{left}
use Rattle.asn1_certificate.specs.Sequences.{sequence_of}
use Rattle.asn1_certificate.specs.Types.{is_revoked_certificate}
use Rattle.asn1_certificate.proofs.Steps.{Tells-first, Tells-none}
use Rattle.asn1_certificate.proofs.revocation.begins_with_revoked.Goals as goal

pub returns-in-Some : goal.returns-in-Some
returns-in-Some c ns d =
    Tells-first ns (sequence_of is_revoked_certificate) _ (left c.args.fields.now) c.in-Some.index c.in-Some.ensures
    (c.is_revoked_list.ensures ns d)

pub returns-in-None : goal.returns-in-None
returns-in-None c ns d =
    Tells-none ns (sequence_of is_revoked_certificate) _ (left c.args.fields.now) c.in-None.ensures
