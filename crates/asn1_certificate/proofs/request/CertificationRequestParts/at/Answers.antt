-- For `request::CertificationRequestParts::at`: what it returns is right.
use Rattle.std.proofs.Common.{◌∙◌, ap}
use Rattle.asn1_certificate.specs.Reading.{signature_fields}
use Rattle.asn1_certificate.specs.Sequences.{field, is_found}
use Rattle.asn1_certificate.specs.Types.{is_certification_request_info}
use Rattle.asn1_certificate.proofs.Steps.{field-is, field-none, field-other, from-none, through}
use Rattle.asn1_certificate.proofs.request.CertificationRequestParts.at.Goals as goal

pub returns-in_err-fields : goal.returns-in_err-fields
returns-in_err-fields c ns held d h =
    from-none _ _ _ c.from_residual.ensures
    (c.in_err-fields.ensures ns d (field (is_certification_request_info held) signature_fields))

pub returns-in_err-content : goal.returns-in_err-content
returns-in_err-content c ns held d h =
    from-none _ _ _ c.from_residual-in_err-content.ensures (
    c.in_ok-fields.ensures ns d (field (is_certification_request_info held) signature_fields)
    ∙ field-none ns (is_certification_request_info held) signature_fields _ c.in_err-content.ensures.0)

pub returns-in_err-signed : goal.returns-in_err-signed
returns-in_err-signed c ns held d h =
    from-none _ _ _ c.from_residual-in_err-signed.ensures (
    c.in_ok-fields.ensures ns d (field (is_certification_request_info held) signature_fields)
    ∙ field-other ns (is_certification_request_info held) signature_fields _ _ _ c.in_ok-content.ensures
    (ap is_found (c.in_err-signed.ensures ns held d h)))

pub returns-in_err-signature : goal.returns-in_err-signature
returns-in_err-signature c ns held d h =
    from-none _ _ _ c.from_residual-in_err-signature.ensures (
    c.in_ok-fields.ensures ns d (field (is_certification_request_info held) signature_fields)
    ∙ through _ _ _ _
    (field-is ns (is_certification_request_info held) signature_fields _ _ _ c.in_ok-content.ensures
    (ap is_found (c.in_ok-signed.ensures ns held d h).of_info))
    (c.in_err-signature.ensures ns d))

pub returns : goal.returns
returns c ns held d h = record {
  of_request =
      c.in_ok-fields.ensures ns d (field (is_certification_request_info held) signature_fields)
      ∙ through _ _ _ _
      (field-is ns (is_certification_request_info held) signature_fields _ _ _ c.in_ok-content.ensures
      (ap is_found (c.in_ok-signed.ensures ns held d h).of_info))
      (c.in_ok-signature.ensures ns d);
  signed = c.in_ok-signed.ensures ns held d h;
}
