-- The records of the fields of a list of revoked certificates, out of the entries of its document.
use Rattle.std.specs.Prelude.{List}
use Rattle.asn1_outline.specs.declared.entry.Entry.{Entry}
use Rattle.asn1_certificate.specs.declared.revocation.CertificateListParts.{CertificateListParts}
use Rattle.asn1_records.specs.Inner.FieldRecords.{record_if_any, record_in}
use Rattle.asn1_records.specs.Status.{done}
use Rattle.asn1_records.specs.declared.record.RevocationListAnswer.{RevocationListAnswer}

-- the records of these fields
abbrev pub records_in : List Entry → CertificateListParts → RevocationListAnswer
records_in entries parts = record {
  status = done;
  offset = 0;
  certificate_list = record_in entries 0;
  tbs_cert_list = record_in entries parts.certificate_list.tbs_cert_list;
  version = record_if_any entries parts.tbs_cert_list.version;
  tbs_signature = record_in entries parts.tbs_cert_list.signature;
  issuer = record_in entries parts.tbs_cert_list.issuer;
  this_update = record_in entries parts.tbs_cert_list.this_update;
  next_update = record_if_any entries parts.tbs_cert_list.next_update;
  revoked_certificates = record_if_any entries parts.tbs_cert_list.revoked_certificates;
  crl_extensions = record_if_any entries parts.tbs_cert_list.crl_extensions;
  signature_algorithm = record_in entries parts.certificate_list.signature_algorithm;
  signature = record_in entries parts.certificate_list.signature;
}
