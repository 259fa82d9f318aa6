-- For `revocation::RevokedCertificates::at`: what it returns is right.
use Rattle.asn1_outline.specs.Structure.{tree_at}
use Rattle.asn1_certificate.specs.Types.{is_revoked_certificate}
use Rattle.asn1_certificate.proofs.EntryTrees.{sequence_of-other}
use Rattle.asn1_certificate.proofs.Steps.{from-none}
use Rattle.asn1_certificate.proofs.revocation.RevokedCertificates.at.Goals as goal

pub returns-in_err-items-clause-items : goal.returns-in_err-items-clause-items
returns-in_err-items-clause-items c ns d =
    from-none _ _ _ c.from_residual.ensures
    (sequence_of-other is_revoked_certificate (tree_at ns c.args.index) (c.in_err-items.ensures ns d))
