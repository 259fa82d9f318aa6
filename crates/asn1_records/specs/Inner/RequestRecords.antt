-- The records of the fields of a certification request, out of the entries of its document.
use Rattle.std.specs.Prelude.{List}
use Rattle.asn1_outline.specs.declared.entry.Entry.{Entry}
use Rattle.asn1_certificate.specs.declared.request.CertificationRequestParts.{CertificationRequestParts}
use Rattle.asn1_records.specs.Inner.FieldRecords.{record_in}
use Rattle.asn1_records.specs.Status.{done}
use Rattle.asn1_records.specs.declared.record.RequestAnswer.{RequestAnswer}

-- the records of these fields
abbrev pub records_in : List Entry → CertificationRequestParts → RequestAnswer
records_in entries parts = record {
  status = done;
  offset = 0;
  certification_request = record_in entries 0;
  certification_request_info = record_in entries parts.certification_request.certification_request_info;
  version = record_in entries parts.certification_request_info.version;
  subject = record_in entries parts.certification_request_info.subject;
  subject_public_key_info = record_in entries parts.certification_request_info.subject_public_key_info;
  public_key_algorithm = record_in entries parts.subject_public_key_info.algorithm;
  subject_public_key = record_in entries parts.subject_public_key_info.subject_public_key;
  attributes = record_in entries parts.certification_request_info.attributes;
  signature_algorithm = record_in entries parts.certification_request.signature_algorithm;
  signature = record_in entries parts.certification_request.signature;
}
