-- What is answered of a certificate: the records of its fields, by the definitions of RFC 5280's types.
use Rattle.std.specs.Prelude.{◌≡◌, ℕ, List, None}
use Rattle.simple_asn1.specs.Structure.{IsStructure, Nodes, tree_at}
use Rattle.asn1_certificate.specs.Parts.{AreFields}
use Rattle.asn1_certificate.specs.Types.{certificate}
use Rattle.asn1_certificate.specs.declared.algorithm.SubjectPublicKeyInfo.{SubjectPublicKeyInfo}
use Rattle.asn1_certificate.specs.declared.certificate.Certificate.{Certificate}
use Rattle.asn1_certificate.specs.declared.certificate.TBSCertificate.{TBSCertificate}
use Rattle.asn1_certificate.specs.declared.validity.Validity.{Validity}
use Rattle.asn1_records.specs.Fields.{AnswersFields, IsRecordIfAny}
use Rattle.asn1_records.specs.Records.{IsRecordAt, no_record}
use Rattle.asn1_records.specs.Status.{not_certificate}
use Rattle.asn1_records.specs.declared.record.CertificateAnswer.{CertificateAnswer}

-- the octets are a document that begins with a certificate, and these are the records of its fields
pub record IsCertificate (octets : List ℕ) (s : CertificateAnswer) : Type 0 where
  pub ns : Nodes
  pub structure : IsStructure octets ns
  pub c : Certificate
  pub t : TBSCertificate
  pub v : Validity
  pub k : SubjectPublicKeyInfo
  pub fields : AreFields ns 0 c t v k
  pub certificate : IsRecordAt octets ns 0 s.certificate
  pub tbs_certificate : IsRecordAt octets ns c.tbs_certificate s.tbs_certificate
  pub version : IsRecordIfAny octets ns t.version s.version
  pub serial_number : IsRecordAt octets ns t.serial_number s.serial_number
  pub tbs_signature : IsRecordAt octets ns t.signature s.tbs_signature
  pub issuer : IsRecordAt octets ns t.issuer s.issuer
  pub not_before : IsRecordAt octets ns v.not_before s.not_before
  pub not_after : IsRecordAt octets ns v.not_after s.not_after
  pub subject : IsRecordAt octets ns t.subject s.subject
  pub subject_public_key_info : IsRecordAt octets ns t.subject_public_key_info s.subject_public_key_info
  pub public_key_algorithm : IsRecordAt octets ns k.algorithm s.public_key_algorithm
  pub subject_public_key : IsRecordAt octets ns k.subject_public_key s.subject_public_key
  pub issuer_unique_id : IsRecordIfAny octets ns t.issuer_unique_id s.issuer_unique_id
  pub subject_unique_id : IsRecordIfAny octets ns t.subject_unique_id s.subject_unique_id
  pub extensions : IsRecordIfAny octets ns t.extensions s.extensions
  pub signature_algorithm : IsRecordAt octets ns c.signature_algorithm s.signature_algorithm
  pub signature : IsRecordAt octets ns c.signature s.signature

-- all fields of the records are 0
pub record HasNoFields (s : CertificateAnswer) : Type 0 where
  pub certificate : s.certificate ≡ no_record
  pub tbs_certificate : s.tbs_certificate ≡ no_record
  pub version : s.version ≡ no_record
  pub serial_number : s.serial_number ≡ no_record
  pub tbs_signature : s.tbs_signature ≡ no_record
  pub issuer : s.issuer ≡ no_record
  pub not_before : s.not_before ≡ no_record
  pub not_after : s.not_after ≡ no_record
  pub subject : s.subject ≡ no_record
  pub subject_public_key_info : s.subject_public_key_info ≡ no_record
  pub public_key_algorithm : s.public_key_algorithm ≡ no_record
  pub subject_public_key : s.subject_public_key ≡ no_record
  pub issuer_unique_id : s.issuer_unique_id ≡ no_record
  pub subject_unique_id : s.subject_unique_id ≡ no_record
  pub extensions : s.extensions ≡ no_record
  pub signature_algorithm : s.signature_algorithm ≡ no_record
  pub signature : s.signature ≡ no_record

-- the octets are a document that begins with another block
abbrev pub IsNoCertificate : List ℕ → Type 0
IsNoCertificate octets = (ns : Nodes) × IsStructure octets ns × (certificate (tree_at ns 0) ≡ None)

-- the fields of a certificate; another block; the first fault and its place; or memory ran out
abbrev pub AnswersCertificate : List ℕ → CertificateAnswer → Type 0
AnswersCertificate octets s =
    AnswersFields octets s.status s.offset not_certificate (IsCertificate octets s) (IsNoCertificate octets)
    (HasNoFields s)
