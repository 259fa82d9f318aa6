-- For `revocation::CertificateListParts::at`: what it returns is right.
use Rattle.std.proofs.Common.{◌∙◌, ap}
use Rattle.asn1_certificate.specs.Reading.{signature_fields}
use Rattle.asn1_certificate.specs.Sequences.{field, is_found}
use Rattle.asn1_certificate.specs.Types.{is_tbs_cert_list}
use Rattle.asn1_certificate.proofs.Steps.{field-is, field-none, field-other, from-none, through}
use Rattle.asn1_certificate.proofs.revocation.CertificateListParts.at.Goals as goal

pub returns-in_err-fields : goal.returns-in_err-fields
returns-in_err-fields c ns d =
    from-none _ _ _ c.from_residual.ensures (c.in_err-fields.ensures ns d (field is_tbs_cert_list signature_fields))

pub returns-in_err-content : goal.returns-in_err-content
returns-in_err-content c ns d =
    from-none _ _ _ c.from_residual-in_err-content.ensures (
    c.in_ok-fields.ensures ns d (field is_tbs_cert_list signature_fields)
    ∙ field-none ns is_tbs_cert_list signature_fields _ c.in_err-content.ensures.0)

pub returns-in_err-tbs_cert_list : goal.returns-in_err-tbs_cert_list
returns-in_err-tbs_cert_list c ns d =
    from-none _ _ _ c.from_residual-in_err-tbs_cert_list.ensures (
    c.in_ok-fields.ensures ns d (field is_tbs_cert_list signature_fields)
    ∙ field-other ns is_tbs_cert_list signature_fields _ _ _ c.in_ok-content.ensures
    (ap is_found (c.in_err-tbs_cert_list.ensures ns d)))

pub returns-in_err-signature : goal.returns-in_err-signature
returns-in_err-signature c ns d =
    from-none _ _ _ c.from_residual-in_err-signature.ensures (
    c.in_ok-fields.ensures ns d (field is_tbs_cert_list signature_fields)
    ∙ through _ _ _ _
    (field-is ns is_tbs_cert_list signature_fields _ _ _ c.in_ok-content.ensures
    (ap is_found (c.in_ok-tbs_cert_list.ensures ns d)))
    (c.in_err-signature.ensures ns d))

pub returns : goal.returns
returns c ns d = record {
  of_list =
      c.in_ok-fields.ensures ns d (field is_tbs_cert_list signature_fields)
      ∙ through _ _ _ _
      (field-is ns is_tbs_cert_list signature_fields _ _ _ c.in_ok-content.ensures
      (ap is_found (c.in_ok-tbs_cert_list.ensures ns d)))
      (c.in_ok-signature.ensures ns d);
  of_tbs_cert_list = c.in_ok-tbs_cert_list.ensures ns d;
}
