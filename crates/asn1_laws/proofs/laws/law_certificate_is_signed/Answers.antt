-- For `laws::law_certificate_is_signed`: what it returns is right.
use Rattle.asn1_certificate.specs.Types.{is_certification_request_info, is_tbs_cert_list, is_tbs_certificate}
use Rattle.asn1_laws.proofs.Signed.{IsSigned-found}
use Rattle.asn1_laws.proofs.laws.law_certificate_is_signed.Goals as goal

pub returns : goal.returns
returns c = record {
  certificate = IsSigned-found is_tbs_certificate;
  list = IsSigned-found is_tbs_cert_list;
  request = λ octets ns held. IsSigned-found (is_certification_request_info held) octets ns;
}
