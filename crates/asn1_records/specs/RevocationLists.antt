-- What is answered of a list of revoked certificates: the records of its fields, by the types of RFC 5280.
use Rattle.std.specs.Prelude.{◌≡◌, ℕ, List, None}
use Rattle.simple_asn1.specs.Structure.{IsStructure, Nodes, tree_at}
use Rattle.asn1_certificate.specs.Parts.{AreListFields}
use Rattle.asn1_certificate.specs.Types.{certificate_list}
use Rattle.asn1_certificate.specs.declared.revocation.CertificateList.{CertificateList}
use Rattle.asn1_certificate.specs.declared.revocation.TBSCertList.{TBSCertList}
use Rattle.asn1_records.specs.Fields.{AnswersFields, IsRecordIfAny}
use Rattle.asn1_records.specs.Records.{IsRecordAt, no_record}
use Rattle.asn1_records.specs.Status.{not_revocation_list}
use Rattle.asn1_records.specs.declared.record.RevocationListAnswer.{RevocationListAnswer}

-- the octets are a document that begins with a list of revoked certificates, and these are the records of its fields
pub record IsRevocationList (octets : List ℕ) (s : RevocationListAnswer) : Type 0 where
  pub ns : Nodes
  pub structure : IsStructure octets ns
  pub l : CertificateList
  pub t : TBSCertList
  pub fields : AreListFields ns 0 l t
  pub certificate_list : IsRecordAt octets ns 0 s.certificate_list
  pub tbs_cert_list : IsRecordAt octets ns l.tbs_cert_list s.tbs_cert_list
  pub version : IsRecordIfAny octets ns t.version s.version
  pub tbs_signature : IsRecordAt octets ns t.signature s.tbs_signature
  pub issuer : IsRecordAt octets ns t.issuer s.issuer
  pub this_update : IsRecordAt octets ns t.this_update s.this_update
  pub next_update : IsRecordIfAny octets ns t.next_update s.next_update
  pub revoked_certificates : IsRecordIfAny octets ns t.revoked_certificates s.revoked_certificates
  pub crl_extensions : IsRecordIfAny octets ns t.crl_extensions s.crl_extensions
  pub signature_algorithm : IsRecordAt octets ns l.signature_algorithm s.signature_algorithm
  pub signature : IsRecordAt octets ns l.signature s.signature

-- all fields of the records are 0
pub record HasNoListFields (s : RevocationListAnswer) : Type 0 where
  pub certificate_list : s.certificate_list ≡ no_record
  pub tbs_cert_list : s.tbs_cert_list ≡ no_record
  pub version : s.version ≡ no_record
  pub tbs_signature : s.tbs_signature ≡ no_record
  pub issuer : s.issuer ≡ no_record
  pub this_update : s.this_update ≡ no_record
  pub next_update : s.next_update ≡ no_record
  pub revoked_certificates : s.revoked_certificates ≡ no_record
  pub crl_extensions : s.crl_extensions ≡ no_record
  pub signature_algorithm : s.signature_algorithm ≡ no_record
  pub signature : s.signature ≡ no_record

-- the octets are a document that begins with another block
abbrev pub IsNoRevocationList : List ℕ → Type 0
IsNoRevocationList octets = (ns : Nodes) × IsStructure octets ns × (certificate_list (tree_at ns 0) ≡ None)

-- the fields of a list of revoked certificates; another block; the first fault and its place; or memory ran out
abbrev pub AnswersRevocationList : List ℕ → RevocationListAnswer → Type 0
AnswersRevocationList octets s =
    AnswersFields octets s.status s.offset not_revocation_list (IsRevocationList octets s) (IsNoRevocationList octets)
    (HasNoListFields s)
