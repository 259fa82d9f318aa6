-- For `request::CertificationRequest::at`: what it returns is right.
use Rattle.asn1_certificate.proofs.Steps.{from-none}
use Rattle.asn1_certificate.proofs.request.CertificationRequest.at.Goals as goal

pub returns-in_err-parts : goal.returns-in_err-parts
returns-in_err-parts c ns held d h = from-none _ _ _ c.from_residual.ensures (c.in_err-parts.ensures ns held d h)

pub returns : goal.returns
returns c ns held d h = (c.in_ok-parts.ensures ns held d h).of_request
