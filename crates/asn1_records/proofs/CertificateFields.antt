-- The fields of a certificate are of their types, so that each has a record: for `certificate`.
use Rattle.std.proofs.Common.{◌≡◌, ℕ, true, List, [], ◌∷◌, Option, Some, map, refl, ap}
use Rattle.std.specs.Prelude.{option_map, IfSome}
use Rattle.asn1_headers.specs.declared.tags.TheConstants.{BIT_STRING, INTEGER}
use Rattle.asn1_outline.specs.Entries.{IsOutline}
use Rattle.asn1_outline.specs.declared.entry.Entry.{Entry}
use Rattle.simple_asn1.specs.Structure.{IsStructure, Nodes, tree_at}
use Rattle.simple_asn1.specs.Tree.{Tree, Trees}
use Rattle.asn1_certificate.specs.Parts.{AreFields}
use Rattle.asn1_certificate.specs.Sequences.{Found, field, is_bits, is_found, is_leaf, no_more, optional, tagged}
use Rattle.asn1_certificate.specs.Types.{certificate, is_algorithm_identifier, is_extensions, is_name, is_subject_public_key_info, is_tbs_certificate, is_time, is_validity, tbs_certificate, validity}
use Rattle.asn1_certificate.specs.declared.certificate.Certificate.{Certificate}
use Rattle.asn1_certificate.specs.declared.certificate.TBSCertificate.{TBSCertificate}
use Rattle.asn1_certificate.specs.declared.certificate.CertificateParts.{CertificateParts}
use Rattle.asn1_records.specs.Certificates.{IsCertificate}
use Rattle.asn1_records.specs.Inner.CertificateRecords.{records_in}
use Rattle.asn1_records.specs.Records.{AreRecords, block_of}
use Rattle.asn1_records.proofs.Entries.{AreRecords-outline}
use Rattle.asn1_records.proofs.FoundFields.{IsRecordAt-typed, IsRecordIfAny-typed, KeyTypes-found, SignedTypes, SignedTypes-found, field-typed, optional-typed, sequence-items}

-- the types of the trees at these places
CertificateTypes-places : (ns : Nodes) (c : Certificate) → certificate (tree_at ns 0) ≡ Some
    (Some (tree_at ns c.tbs_certificate) ∷ Some (tree_at ns c.signature_algorithm) ∷ Some (tree_at ns c.signature) ∷ [])
    → SignedTypes is_tbs_certificate (tree_at ns c.tbs_certificate) (tree_at ns c.signature_algorithm)
    (tree_at ns c.signature)
CertificateTypes-places ns c e =
    SignedTypes-found is_tbs_certificate (tree_at ns 0) (tree_at ns c.tbs_certificate)
    (tree_at ns c.signature_algorithm) (tree_at ns c.signature) e

-- the types of the fields of what is signed
record TBSTypes (v : Option (Tree ℕ)) (n a i y s k : Tree ℕ) (iu su e : Option (Tree ℕ)) : Type 0 where
  pub version : IfSome v (λ b. tagged 0 (is_leaf INTEGER) b ≡ true)
  pub number : is_leaf INTEGER n ≡ true
  pub algorithm : is_algorithm_identifier a ≡ true
  pub issuer : is_name i ≡ true
  pub validity : is_validity y ≡ true
  pub subject : is_name s ≡ true
  pub key : is_subject_public_key_info k ≡ true
  pub issuer_id : IfSome iu (λ b. is_bits 1 b ≡ true)
  pub subject_id : IfSome su (λ b. is_bits 2 b ≡ true)
  pub extensions : IfSome e (λ b. tagged 3 is_extensions b ≡ true)

TBSTypes-found : (whole : Tree ℕ) (v : Option (Tree ℕ)) (n a i y s k : Tree ℕ) (iu su x : Option (Tree ℕ)) →
    tbs_certificate whole
    ≡ Some (v ∷ Some n ∷ Some a ∷ Some i ∷ Some y ∷ Some s ∷ Some k ∷ iu ∷ su ∷ x ∷ []) →
    TBSTypes v n a i y s k iu su x
TBSTypes-found whole v n a i y s k iu su x e =
    let from_9 : Trees ℕ → Option Found = optional (tagged 3 is_extensions) no_more in
    let from_8 : Trees ℕ → Option Found = optional (is_bits 2) from_9 in
    let from_7 : Trees ℕ → Option Found = optional (is_bits 1) from_8 in
    let from_6 : Trees ℕ → Option Found = field is_subject_public_key_info from_7 in
    let from_5 : Trees ℕ → Option Found = field is_name from_6 in
    let from_4 : Trees ℕ → Option Found = field is_validity from_5 in
    let from_3 : Trees ℕ → Option Found = field is_name from_4 in
    let from_2 : Trees ℕ → Option Found = field is_algorithm_identifier from_3 in
    let from_1 : Trees ℕ → Option Found = field (is_leaf INTEGER) from_2 in
    let (cs, e0) = sequence-items (optional (tagged 0 (is_leaf INTEGER)) from_1) whole _ e in
    let (t0, cs1, e1) = optional-typed (tagged 0 (is_leaf INTEGER)) from_1 cs v _ e0 in
    let (t1, cs2, e2) = field-typed (is_leaf INTEGER) from_2 cs1 n _ e1 in
    let (t2, cs3, e3) = field-typed is_algorithm_identifier from_3 cs2 a _ e2 in
    let (t3, cs4, e4) = field-typed is_name from_4 cs3 i _ e3 in
    let (t4, cs5, e5) = field-typed is_validity from_5 cs4 y _ e4 in
    let (t5, cs6, e6) = field-typed is_name from_6 cs5 s _ e5 in
    let (t6, cs7, e7) = field-typed is_subject_public_key_info from_7 cs6 k _ e6 in
    let (t7, cs8, e8) = optional-typed (is_bits 1) from_8 cs7 iu _ e7 in
    let (t8, cs9, e9) = optional-typed (is_bits 2) from_9 cs8 su _ e8 in
    let (t9, cs10, e10) = optional-typed (tagged 3 is_extensions) no_more cs9 x _ e9 in
    record {
      version = t0;
      number = t1;
      algorithm = t2;
      issuer = t3;
      validity = t4;
      subject = t5;
      key = t6;
      issuer_id = t7;
      subject_id = t8;
      extensions = t9;
    }

-- the types of the trees at these places
TBSTypes-places : (ns : Nodes) (place : ℕ) (t : TBSCertificate) → tbs_certificate (tree_at ns place) ≡ Some
    (option_map (tree_at ns) t.version ∷ Some (tree_at ns t.serial_number) ∷ Some (tree_at ns t.signature)
    ∷ Some (tree_at ns t.issuer) ∷ Some (tree_at ns t.validity) ∷ Some (tree_at ns t.subject)
    ∷ Some (tree_at ns t.subject_public_key_info) ∷ option_map (tree_at ns) t.issuer_unique_id
    ∷ option_map (tree_at ns) t.subject_unique_id ∷ option_map (tree_at ns) t.extensions ∷ []) →
    TBSTypes (option_map (tree_at ns) t.version) (tree_at ns t.serial_number) (tree_at ns t.signature)
    (tree_at ns t.issuer) (tree_at ns t.validity) (tree_at ns t.subject) (tree_at ns t.subject_public_key_info)
    (option_map (tree_at ns) t.issuer_unique_id) (option_map (tree_at ns) t.subject_unique_id)
    (option_map (tree_at ns) t.extensions)
TBSTypes-places ns place t e =
    TBSTypes-found (tree_at ns place) (option_map (tree_at ns) t.version) (tree_at ns t.serial_number)
    (tree_at ns t.signature) (tree_at ns t.issuer) (tree_at ns t.validity) (tree_at ns t.subject)
    (tree_at ns t.subject_public_key_info) (option_map (tree_at ns) t.issuer_unique_id)
    (option_map (tree_at ns) t.subject_unique_id) (option_map (tree_at ns) t.extensions) e

-- the types of the fields of a validity
ValidityTypes-found : (whole b c : Tree ℕ) → validity whole ≡ Some (Some b ∷ Some c ∷ []) →
    (is_time b ≡ true) × (is_time c ≡ true)
ValidityTypes-found whole b c e =
    let from_1 : Trees ℕ → Option Found = field is_time no_more in
    let (cs, e0) = sequence-items (field is_time from_1) whole _ e in
    let (t0, cs1, e1) = field-typed is_time from_1 cs b _ e0 in
    let (t1, cs2, e2) = field-typed is_time no_more cs1 c _ e1 in
    (t0, t1)

module _ (x : List ℕ) (ns : Nodes) (es : List Entry) (are : AreRecords x ns (map block_of es)) where
  -- the records of the fields of a certificate
  IsCertificate-records : (p : CertificateParts) → IsStructure x ns →
      AreFields ns 0 p.certificate p.tbs_certificate p.validity p.subject_public_key_info →
      IsCertificate x (records_in es p)
  IsCertificate-records p d f =
      let typed = IsRecordAt-typed x ns es are in
      let typed_if_any = IsRecordIfAny-typed x ns es are in
      let c = p.certificate in
      let t = p.tbs_certificate in
      let v = p.validity in
      let k = p.subject_public_key_info in
      let of_c = CertificateTypes-places ns c f.of_certificate in
      let of_t = TBSTypes-places ns c.tbs_certificate t f.signed.of_tbs_certificate in
      let (before, after) = ValidityTypes-found (tree_at ns t.validity) (tree_at ns v.not_before)
      (tree_at ns v.not_after) f.signed.of_validity in
      let (algorithm, key) = KeyTypes-found (tree_at ns t.subject_public_key_info) (tree_at ns k.algorithm)
      (tree_at ns k.subject_public_key) f.signed.of_key in
      record {
        ns = ns;
        structure = d;
        c = c;
        t = t;
        v = v;
        k = k;
        fields = f;
        certificate = typed (λ b. is_found (certificate b)) refl 0 (ap is_found f.of_certificate);
        tbs_certificate = typed is_tbs_certificate refl c.tbs_certificate of_c.content;
        version = typed_if_any (tagged 0 (is_leaf INTEGER)) refl t.version of_t.version;
        serial_number = typed (is_leaf INTEGER) refl t.serial_number of_t.number;
        tbs_signature = typed is_algorithm_identifier refl t.signature of_t.algorithm;
        issuer = typed is_name refl t.issuer of_t.issuer;
        not_before = typed is_time refl v.not_before before;
        not_after = typed is_time refl v.not_after after;
        subject = typed is_name refl t.subject of_t.subject;
        subject_public_key_info = typed is_subject_public_key_info refl t.subject_public_key_info of_t.key;
        public_key_algorithm = typed is_algorithm_identifier refl k.algorithm algorithm;
        subject_public_key = typed (is_leaf BIT_STRING) refl k.subject_public_key key;
        issuer_unique_id = typed_if_any (is_bits 1) refl t.issuer_unique_id of_t.issuer_id;
        subject_unique_id = typed_if_any (is_bits 2) refl t.subject_unique_id of_t.subject_id;
        extensions = typed_if_any (tagged 3 is_extensions) refl t.extensions of_t.extensions;
        signature_algorithm = typed is_algorithm_identifier refl c.signature_algorithm of_c.algorithm;
        signature = typed (is_leaf BIT_STRING) refl c.signature of_c.signature;
      }

-- the records of the fields of a certificate that a document begins with
pub IsCertificate-found : (x : List ℕ) (es : List Entry) (p : CertificateParts) → IsOutline x es →
    ((ns : Nodes) → IsStructure x ns →
    AreFields ns 0 p.certificate p.tbs_certificate p.validity p.subject_public_key_info) →
    IsCertificate x (records_in es p)
IsCertificate-found x es p o found =
    let (ns, d, are) = AreRecords-outline x es o in
    IsCertificate-records x ns es are p d (found ns d)
