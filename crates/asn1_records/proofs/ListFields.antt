-- The fields of a list of revoked certificates are of their types, so that each has a record: for `revocation_list`.
use Rattle.std.proofs.Common.{◌≡◌, ℕ, true, List, [], ◌∷◌, Option, Some, map, refl, ap}
use Rattle.std.specs.Prelude.{option_map, IfSome}
use Rattle.asn1_headers.specs.declared.tags.TheConstants.{BIT_STRING, INTEGER}
use Rattle.asn1_outline.specs.Entries.{IsOutline}
use Rattle.asn1_outline.specs.declared.entry.Entry.{Entry}
use Rattle.simple_asn1.specs.Structure.{IsStructure, Nodes, tree_at}
use Rattle.simple_asn1.specs.Tree.{Tree, Trees}
use Rattle.asn1_certificate.specs.Parts.{AreListFields}
use Rattle.asn1_certificate.specs.Sequences.{Found, field, is_found, is_leaf, no_more, optional, sequence_of, tagged}
use Rattle.asn1_certificate.specs.Types.{certificate_list, is_algorithm_identifier, is_extensions, is_name, is_revoked_certificate, is_tbs_cert_list, is_time, tbs_cert_list}
use Rattle.asn1_certificate.specs.declared.revocation.CertificateList.{CertificateList}
use Rattle.asn1_certificate.specs.declared.revocation.CertificateListParts.{CertificateListParts}
use Rattle.asn1_records.specs.Inner.ListRecords.{records_in}
use Rattle.asn1_records.specs.Records.{AreRecords, block_of}
use Rattle.asn1_records.specs.RevocationLists.{IsRevocationList}
use Rattle.asn1_records.proofs.Entries.{AreRecords-outline}
use Rattle.asn1_records.proofs.FoundFields.{IsRecordAt-typed, IsRecordIfAny-typed, SignedTypes, SignedTypes-found, field-typed, optional-typed, sequence-items}

-- the types of the trees at these places
ListTypes-places : (ns : Nodes) (l : CertificateList) → certificate_list (tree_at ns 0) ≡ Some
    (Some (tree_at ns l.tbs_cert_list) ∷ Some (tree_at ns l.signature_algorithm) ∷ Some (tree_at ns l.signature) ∷ [])
    → SignedTypes is_tbs_cert_list (tree_at ns l.tbs_cert_list) (tree_at ns l.signature_algorithm)
    (tree_at ns l.signature)
ListTypes-places ns l e =
    SignedTypes-found is_tbs_cert_list (tree_at ns 0) (tree_at ns l.tbs_cert_list) (tree_at ns l.signature_algorithm)
    (tree_at ns l.signature) e

-- the types of the fields of what is signed
record TBSListTypes (v : Option (Tree ℕ)) (a i u : Tree ℕ) (n r e : Option (Tree ℕ)) : Type 0 where
  pub version : IfSome v (λ b. is_leaf INTEGER b ≡ true)
  pub algorithm : is_algorithm_identifier a ≡ true
  pub issuer : is_name i ≡ true
  pub this_update : is_time u ≡ true
  pub next_update : IfSome n (λ b. is_time b ≡ true)
  pub revoked : IfSome r (λ b. sequence_of is_revoked_certificate b ≡ true)
  pub extensions : IfSome e (λ b. tagged 0 is_extensions b ≡ true)

TBSListTypes-found : (whole : Tree ℕ) (v : Option (Tree ℕ)) (a i u : Tree ℕ) (n r x : Option (Tree ℕ)) →
    tbs_cert_list whole ≡ Some (v ∷ Some a ∷ Some i ∷ Some u ∷ n ∷ r ∷ x ∷ []) →
    TBSListTypes v a i u n r x
TBSListTypes-found whole v a i u n r x e =
    let from_6 : Trees ℕ → Option Found = optional (tagged 0 is_extensions) no_more in
    let from_5 : Trees ℕ → Option Found = optional (sequence_of is_revoked_certificate) from_6 in
    let from_4 : Trees ℕ → Option Found = optional is_time from_5 in
    let from_3 : Trees ℕ → Option Found = field is_time from_4 in
    let from_2 : Trees ℕ → Option Found = field is_name from_3 in
    let from_1 : Trees ℕ → Option Found = field is_algorithm_identifier from_2 in
    let (cs, e0) = sequence-items (optional (is_leaf INTEGER) from_1) whole _ e in
    let (t0, cs1, e1) = optional-typed (is_leaf INTEGER) from_1 cs v _ e0 in
    let (t1, cs2, e2) = field-typed is_algorithm_identifier from_2 cs1 a _ e1 in
    let (t2, cs3, e3) = field-typed is_name from_3 cs2 i _ e2 in
    let (t3, cs4, e4) = field-typed is_time from_4 cs3 u _ e3 in
    let (t4, cs5, e5) = optional-typed is_time from_5 cs4 n _ e4 in
    let (t5, cs6, e6) = optional-typed (sequence_of is_revoked_certificate) from_6 cs5 r _ e5 in
    let (t6, cs7, e7) = optional-typed (tagged 0 is_extensions) no_more cs6 x _ e6 in
    record {
      version = t0;
      algorithm = t1;
      issuer = t2;
      this_update = t3;
      next_update = t4;
      revoked = t5;
      extensions = t6;
    }

module _ (x : List ℕ) (ns : Nodes) (es : List Entry) (are : AreRecords x ns (map block_of es)) where
  -- the records of the fields of a list of revoked certificates
  IsRevocationList-records : (p : CertificateListParts) → IsStructure x ns →
      AreListFields ns 0 p.certificate_list p.tbs_cert_list →
      IsRevocationList x (records_in es p)
  IsRevocationList-records p d f =
      let typed = IsRecordAt-typed x ns es are in
      let typed_if_any = IsRecordIfAny-typed x ns es are in
      let l = p.certificate_list in
      let t = p.tbs_cert_list in
      let of_l = ListTypes-places ns l f.of_list in
      let of_t = TBSListTypes-found (tree_at ns l.tbs_cert_list) (option_map (tree_at ns) t.version)
      (tree_at ns t.signature) (tree_at ns t.issuer) (tree_at ns t.this_update)
      (option_map (tree_at ns) t.next_update) (option_map (tree_at ns) t.revoked_certificates)
      (option_map (tree_at ns) t.crl_extensions) f.of_tbs_cert_list in
      record {
        ns = ns;
        structure = d;
        l = l;
        t = t;
        fields = f;
        certificate_list = typed (λ b. is_found (certificate_list b)) refl 0 (ap is_found f.of_list);
        tbs_cert_list = typed is_tbs_cert_list refl l.tbs_cert_list of_l.content;
        version = typed_if_any (is_leaf INTEGER) refl t.version of_t.version;
        tbs_signature = typed is_algorithm_identifier refl t.signature of_t.algorithm;
        issuer = typed is_name refl t.issuer of_t.issuer;
        this_update = typed is_time refl t.this_update of_t.this_update;
        next_update = typed_if_any is_time refl t.next_update of_t.next_update;
        revoked_certificates =
            typed_if_any (sequence_of is_revoked_certificate) refl t.revoked_certificates of_t.revoked;
        crl_extensions = typed_if_any (tagged 0 is_extensions) refl t.crl_extensions of_t.extensions;
        signature_algorithm = typed is_algorithm_identifier refl l.signature_algorithm of_l.algorithm;
        signature = typed (is_leaf BIT_STRING) refl l.signature of_l.signature;
      }

-- the records of the fields of a list of revoked certificates that a document begins with
pub IsRevocationList-found : (x : List ℕ) (es : List Entry) (p : CertificateListParts) → IsOutline x es →
    ((ns : Nodes) → IsStructure x ns → AreListFields ns 0 p.certificate_list p.tbs_cert_list) →
    IsRevocationList x (records_in es p)
IsRevocationList-found x es p o found =
    let (ns, d, are) = AreRecords-outline x es o in
    IsRevocationList-records x ns es are p d (found ns d)
