-- For `revocation::CertificateList::at`: what it returns is right.
use Rattle.asn1_certificate.proofs.Steps.{from-none}
use Rattle.asn1_certificate.proofs.revocation.CertificateList.at.Goals as goal

pub returns-in_err-parts : goal.returns-in_err-parts
returns-in_err-parts c ns d = from-none _ _ _ c.from_residual.ensures (c.in_err-parts.ensures ns d)

pub returns : goal.returns
returns c ns d = (c.in_ok-parts.ensures ns d).of_list
