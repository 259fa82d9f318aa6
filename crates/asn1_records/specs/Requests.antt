-- What is answered of a certification request: the records of its fields, by the definitions of RFC 2986's types.
use Rattle.std.specs.Prelude.{◌≡◌, ℕ, List, None}
use Rattle.simple_asn1.specs.Structure.{IsStructure, Nodes, tree_at}
use Rattle.simple_asn1.specs.Tree.{Tree, Trees}
use Rattle.asn1_certificate.specs.Held.{AreHeld}
use Rattle.asn1_certificate.specs.Parts.{AreRequestFields}
use Rattle.asn1_certificate.specs.Types.{certification_request}
use Rattle.asn1_certificate.specs.declared.algorithm.SubjectPublicKeyInfo.{SubjectPublicKeyInfo}
use Rattle.asn1_certificate.specs.declared.request.CertificationRequest.{CertificationRequest}
use Rattle.asn1_certificate.specs.declared.request.CertificationRequestInfo.{CertificationRequestInfo}
use Rattle.asn1_records.specs.Fields.{AnswersFields}
use Rattle.asn1_records.specs.Records.{IsRecordAt, no_record}
use Rattle.asn1_records.specs.Status.{not_request}
use Rattle.asn1_records.specs.declared.record.RequestAnswer.{RequestAnswer}

-- the octets are a document that begins with a certification request, and these are the records of its fields. Of the
-- trees that the attributes hold, whose tag is implicit, held says which they are
pub record IsRequest (octets : List ℕ) (s : RequestAnswer) : Type 0 where
  pub ns : Nodes
  pub structure : IsStructure octets ns
  pub held : Tree ℕ → Trees ℕ
  pub are_held : AreHeld ns held
  pub r : CertificationRequest
  pub i : CertificationRequestInfo
  pub k : SubjectPublicKeyInfo
  pub fields : AreRequestFields ns held 0 r i k
  pub certification_request : IsRecordAt octets ns 0 s.certification_request
  pub certification_request_info : IsRecordAt octets ns r.certification_request_info s.certification_request_info
  pub version : IsRecordAt octets ns i.version s.version
  pub subject : IsRecordAt octets ns i.subject s.subject
  pub subject_public_key_info : IsRecordAt octets ns i.subject_public_key_info s.subject_public_key_info
  pub public_key_algorithm : IsRecordAt octets ns k.algorithm s.public_key_algorithm
  pub subject_public_key : IsRecordAt octets ns k.subject_public_key s.subject_public_key
  pub attributes : IsRecordAt octets ns i.attributes s.attributes
  pub signature_algorithm : IsRecordAt octets ns r.signature_algorithm s.signature_algorithm
  pub signature : IsRecordAt octets ns r.signature s.signature

-- all fields of the records are 0
pub record HasNoRequestFields (s : RequestAnswer) : Type 0 where
  pub certification_request : s.certification_request ≡ no_record
  pub certification_request_info : s.certification_request_info ≡ no_record
  pub version : s.version ≡ no_record
  pub subject : s.subject ≡ no_record
  pub subject_public_key_info : s.subject_public_key_info ≡ no_record
  pub public_key_algorithm : s.public_key_algorithm ≡ no_record
  pub subject_public_key : s.subject_public_key ≡ no_record
  pub attributes : s.attributes ≡ no_record
  pub signature_algorithm : s.signature_algorithm ≡ no_record
  pub signature : s.signature ≡ no_record

-- the octets are a document that begins with another block
abbrev pub IsNoRequest : List ℕ → Type 0
IsNoRequest octets =
    (ns : Nodes) × IsStructure octets ns × (held : Tree ℕ → Trees ℕ) × AreHeld ns held
    × (certification_request held (tree_at ns 0) ≡ None)

-- the fields of a certification request; another block; the first fault and its place; or memory ran out
abbrev pub AnswersRequest : List ℕ → RequestAnswer → Type 0
AnswersRequest octets s =
    AnswersFields octets s.status s.offset not_request (IsRequest octets s) (IsNoRequest octets)
    (HasNoRequestFields s)
