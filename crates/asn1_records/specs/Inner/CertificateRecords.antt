-- The records of the fields of a certificate, out of the entries of its document.
use Rattle.std.specs.Prelude.{List}
use Rattle.asn1_outline.specs.declared.entry.Entry.{Entry}
use Rattle.asn1_certificate.specs.declared.certificate.CertificateParts.{CertificateParts}
use Rattle.asn1_records.specs.Inner.FieldRecords.{record_if_any, record_in}
use Rattle.asn1_records.specs.Status.{done}
use Rattle.asn1_records.specs.declared.record.CertificateAnswer.{CertificateAnswer}

-- the records of these fields
abbrev pub records_in : List Entry → CertificateParts → CertificateAnswer
records_in entries parts = record {
  status = done;
  offset = 0;
  certificate = record_in entries 0;
  tbs_certificate = record_in entries parts.certificate.tbs_certificate;
  version = record_if_any entries parts.tbs_certificate.version;
  serial_number = record_in entries parts.tbs_certificate.serial_number;
  tbs_signature = record_in entries parts.tbs_certificate.signature;
  issuer = record_in entries parts.tbs_certificate.issuer;
  not_before = record_in entries parts.validity.not_before;
  not_after = record_in entries parts.validity.not_after;
  subject = record_in entries parts.tbs_certificate.subject;
  subject_public_key_info = record_in entries parts.tbs_certificate.subject_public_key_info;
  public_key_algorithm = record_in entries parts.subject_public_key_info.algorithm;
  subject_public_key = record_in entries parts.subject_public_key_info.subject_public_key;
  issuer_unique_id = record_if_any entries parts.tbs_certificate.issuer_unique_id;
  subject_unique_id = record_if_any entries parts.tbs_certificate.subject_unique_id;
  extensions = record_if_any entries parts.tbs_certificate.extensions;
  signature_algorithm = record_in entries parts.certificate.signature_algorithm;
  signature = record_in entries parts.certificate.signature;
}
