-- Where the fields of a type stand, with those of the fields in it that have fields themselves.
use Rattle.std.specs.Prelude.{◌≡◌, ℕ, [], ◌∷◌, Some, option_map}
use Rattle.asn1_blocks.specs.Tree.{Tree, Trees}
use Rattle.asn1_outline.specs.Structure.{Nodes, tree_at}
use Rattle.asn1_certificate.specs.Types.{certificate, certificate_list, certification_request, certification_request_info, subject_public_key_info, tbs_cert_list, tbs_certificate, validity}
use Rattle.asn1_certificate.specs.declared.algorithm.SubjectPublicKeyInfo.{SubjectPublicKeyInfo}
use Rattle.asn1_certificate.specs.declared.certificate.Certificate.{Certificate}
use Rattle.asn1_certificate.specs.declared.certificate.TBSCertificate.{TBSCertificate}
use Rattle.asn1_certificate.specs.declared.request.CertificationRequest.{CertificationRequest}
use Rattle.asn1_certificate.specs.declared.request.CertificationRequestInfo.{CertificationRequestInfo}
use Rattle.asn1_certificate.specs.declared.revocation.CertificateList.{CertificateList}
use Rattle.asn1_certificate.specs.declared.revocation.TBSCertList.{TBSCertList}
use Rattle.asn1_certificate.specs.declared.validity.Validity.{Validity}

-- where the blocks stand that the TBSCertificate at the index has for its fields
pub record AreSignedFields (ns : Nodes) (index : ℕ) (t : TBSCertificate) (v : Validity) (k : SubjectPublicKeyInfo)
    : Type 0 where
  pub of_tbs_certificate : tbs_certificate (tree_at ns index) ≡ Some
      (option_map (tree_at ns) t.version ∷ Some (tree_at ns t.serial_number) ∷ Some (tree_at ns t.signature)
      ∷ Some (tree_at ns t.issuer) ∷ Some (tree_at ns t.validity) ∷ Some (tree_at ns t.subject)
      ∷ Some (tree_at ns t.subject_public_key_info) ∷ option_map (tree_at ns) t.issuer_unique_id
      ∷ option_map (tree_at ns) t.subject_unique_id ∷ option_map (tree_at ns) t.extensions ∷ [])
  pub of_validity : validity (tree_at ns t.validity) ≡ Some
      (Some (tree_at ns v.not_before) ∷ Some (tree_at ns v.not_after) ∷ [])
  pub of_key : subject_public_key_info (tree_at ns t.subject_public_key_info) ≡ Some
      (Some (tree_at ns k.algorithm) ∷ Some (tree_at ns k.subject_public_key) ∷ [])

-- where the blocks stand that the Certificate at the index has for its fields
pub record AreFields (ns : Nodes) (index : ℕ) (c : Certificate) (t : TBSCertificate) (v : Validity)
    (k : SubjectPublicKeyInfo) : Type 0 where
  pub of_certificate : certificate (tree_at ns index) ≡ Some
      (Some (tree_at ns c.tbs_certificate) ∷ Some (tree_at ns c.signature_algorithm)
      ∷ Some (tree_at ns c.signature) ∷ [])
  pub signed : AreSignedFields ns c.tbs_certificate t v k

-- where the blocks stand that the CertificationRequestInfo at the index has for its fields; held says which trees the
-- attributes hold, whose tag is implicit
pub record AreInfoFields (ns : Nodes) (held : Tree ℕ → Trees ℕ) (index : ℕ) (i : CertificationRequestInfo)
    (k : SubjectPublicKeyInfo) : Type 0 where
  pub of_info : certification_request_info held (tree_at ns index) ≡ Some
      (Some (tree_at ns i.version) ∷ Some (tree_at ns i.subject) ∷ Some (tree_at ns i.subject_public_key_info)
      ∷ Some (tree_at ns i.attributes) ∷ [])
  pub of_key : subject_public_key_info (tree_at ns i.subject_public_key_info) ≡ Some
      (Some (tree_at ns k.algorithm) ∷ Some (tree_at ns k.subject_public_key) ∷ [])

-- where the blocks stand that the CertificationRequest at the index has for its fields
pub record AreRequestFields (ns : Nodes) (held : Tree ℕ → Trees ℕ) (index : ℕ) (r : CertificationRequest)
    (i : CertificationRequestInfo) (k : SubjectPublicKeyInfo) : Type 0 where
  pub of_request : certification_request held (tree_at ns index) ≡ Some
      (Some (tree_at ns r.certification_request_info) ∷ Some (tree_at ns r.signature_algorithm)
      ∷ Some (tree_at ns r.signature) ∷ [])
  pub signed : AreInfoFields ns held r.certification_request_info i k

-- where the blocks stand that the CertificateList at the index has for its fields
pub record AreListFields (ns : Nodes) (index : ℕ) (l : CertificateList) (t : TBSCertList) : Type 0 where
  pub of_list : certificate_list (tree_at ns index) ≡ Some
      (Some (tree_at ns l.tbs_cert_list) ∷ Some (tree_at ns l.signature_algorithm) ∷ Some (tree_at ns l.signature)
      ∷ [])
  pub of_tbs_cert_list : tbs_cert_list (tree_at ns l.tbs_cert_list) ≡ Some
      (option_map (tree_at ns) t.version ∷ Some (tree_at ns t.signature) ∷ Some (tree_at ns t.issuer)
      ∷ Some (tree_at ns t.this_update) ∷ option_map (tree_at ns) t.next_update
      ∷ option_map (tree_at ns) t.revoked_certificates ∷ option_map (tree_at ns) t.crl_extensions ∷ [])
