-- The fields of a certification request are of their types, so that each has a record: for `request`.
use Rattle.std.proofs.Common.{◌≡◌, ℕ, true, List, [], ◌∷◌, Option, Some, map, refl, ap}
use Rattle.asn1_headers.specs.declared.tags.TheConstants.{BIT_STRING, INTEGER}
use Rattle.asn1_outline.specs.Entries.{IsOutline}
use Rattle.asn1_outline.specs.declared.entry.Entry.{Entry}
use Rattle.simple_asn1.specs.Structure.{IsStructure, Nodes, tree_at}
use Rattle.simple_asn1.specs.Tree.{Tree, Trees}
use Rattle.asn1_certificate.specs.Held.{AreHeld}
use Rattle.asn1_certificate.specs.Parts.{AreRequestFields}
use Rattle.asn1_certificate.specs.Sequences.{Found, field, is_found, is_leaf, no_more}
use Rattle.asn1_certificate.specs.Types.{certification_request, certification_request_info, is_algorithm_identifier, is_certification_request_info, is_name, is_subject_public_key_info, tagged_attributes}
use Rattle.asn1_certificate.specs.declared.request.CertificationRequest.{CertificationRequest}
use Rattle.asn1_certificate.specs.declared.request.CertificationRequestInfo.{CertificationRequestInfo}
use Rattle.asn1_certificate.specs.declared.request.CertificationRequestParts.{CertificationRequestParts}
use Rattle.asn1_records.specs.Inner.RequestRecords.{records_in}
use Rattle.asn1_records.specs.Records.{AreRecords, block_of}
use Rattle.asn1_records.specs.Requests.{IsRequest}
use Rattle.asn1_records.proofs.Entries.{AreRecords-outline}
use Rattle.asn1_records.proofs.FoundFields.{IsRecordAt-typed, KeyTypes-found, SignedTypes, SignedTypes-found, field-typed, sequence-items}
use Rattle.asn1_records.proofs.HeldTrees.{AreHeld-held_in, held_in}

-- the types of the trees at these places
RequestTypes-places : (ns : Nodes) (held : Tree ℕ → Trees ℕ) (r : CertificationRequest) →
    certification_request held (tree_at ns 0) ≡ Some
    (Some (tree_at ns r.certification_request_info) ∷ Some (tree_at ns r.signature_algorithm)
    ∷ Some (tree_at ns r.signature) ∷ []) →
    SignedTypes (is_certification_request_info held) (tree_at ns r.certification_request_info)
    (tree_at ns r.signature_algorithm) (tree_at ns r.signature)
RequestTypes-places ns held r e =
    SignedTypes-found (is_certification_request_info held) (tree_at ns 0) (tree_at ns r.certification_request_info)
    (tree_at ns r.signature_algorithm) (tree_at ns r.signature) e

-- the types of the fields of what is signed
record InfoTypes (held : Tree ℕ → Trees ℕ) (v s k a : Tree ℕ) : Type 0 where
  pub version : is_leaf INTEGER v ≡ true
  pub subject : is_name s ≡ true
  pub key : is_subject_public_key_info k ≡ true
  pub attributes : tagged_attributes held 0 a ≡ true

InfoTypes-found : (held : Tree ℕ → Trees ℕ) (whole v s k a : Tree ℕ) →
    certification_request_info held whole ≡ Some (Some v ∷ Some s ∷ Some k ∷ Some a ∷ []) →
    InfoTypes held v s k a
InfoTypes-found held whole v s k a e =
    let from_3 : Trees ℕ → Option Found = field (tagged_attributes held 0) no_more in
    let from_2 : Trees ℕ → Option Found = field is_subject_public_key_info from_3 in
    let from_1 : Trees ℕ → Option Found = field is_name from_2 in
    let (cs, e0) = sequence-items (field (is_leaf INTEGER) from_1) whole _ e in
    let (t0, cs1, e1) = field-typed (is_leaf INTEGER) from_1 cs v _ e0 in
    let (t1, cs2, e2) = field-typed is_name from_2 cs1 s _ e1 in
    let (t2, cs3, e3) = field-typed is_subject_public_key_info from_3 cs2 k _ e2 in
    let (t3, cs4, e4) = field-typed (tagged_attributes held 0) no_more cs3 a _ e3 in
    record { version = t0; subject = t1; key = t2; attributes = t3 }

-- the types of the trees at these places
InfoTypes-places : (ns : Nodes) (held : Tree ℕ → Trees ℕ) (place : ℕ) (i : CertificationRequestInfo) →
    certification_request_info held (tree_at ns place) ≡ Some
    (Some (tree_at ns i.version) ∷ Some (tree_at ns i.subject) ∷ Some (tree_at ns i.subject_public_key_info)
    ∷ Some (tree_at ns i.attributes) ∷ []) →
    InfoTypes held (tree_at ns i.version) (tree_at ns i.subject) (tree_at ns i.subject_public_key_info)
    (tree_at ns i.attributes)
InfoTypes-places ns held place i e =
    InfoTypes-found held (tree_at ns place) (tree_at ns i.version) (tree_at ns i.subject)
    (tree_at ns i.subject_public_key_info) (tree_at ns i.attributes) e

module _ (x : List ℕ) (ns : Nodes) (es : List Entry) (are : AreRecords x ns (map block_of es)) where
  -- the records of the fields of a certification request
  IsRequest-records : (held : Tree ℕ → Trees ℕ) (p : CertificationRequestParts) → IsStructure x ns → AreHeld ns held →
      AreRequestFields ns held 0 p.certification_request p.certification_request_info p.subject_public_key_info →
      IsRequest x (records_in es p)
  IsRequest-records held p d h f =
      let typed = IsRecordAt-typed x ns es are in
      let r = p.certification_request in
      let i = p.certification_request_info in
      let k = p.subject_public_key_info in
      let of_r = RequestTypes-places ns held r f.of_request in
      let of_i = InfoTypes-places ns held r.certification_request_info i f.signed.of_info in
      let (algorithm, key) = KeyTypes-found (tree_at ns i.subject_public_key_info) (tree_at ns k.algorithm)
      (tree_at ns k.subject_public_key) f.signed.of_key in
      record {
        ns = ns;
        structure = d;
        held = held;
        are_held = h;
        r = r;
        i = i;
        k = k;
        fields = f;
        certification_request =
            typed (λ b. is_found (certification_request held b)) refl 0 (ap is_found f.of_request);
        certification_request_info =
            typed (is_certification_request_info held) refl r.certification_request_info of_r.content;
        version = typed (is_leaf INTEGER) refl i.version of_i.version;
        subject = typed is_name refl i.subject of_i.subject;
        subject_public_key_info = typed is_subject_public_key_info refl i.subject_public_key_info of_i.key;
        public_key_algorithm = typed is_algorithm_identifier refl k.algorithm algorithm;
        subject_public_key = typed (is_leaf BIT_STRING) refl k.subject_public_key key;
        attributes = typed (tagged_attributes held 0) refl i.attributes of_i.attributes;
        signature_algorithm = typed is_algorithm_identifier refl r.signature_algorithm of_r.algorithm;
        signature = typed (is_leaf BIT_STRING) refl r.signature of_r.signature;
      }

-- the records of the fields of a certification request that a document begins with
pub IsRequest-found : (x : List ℕ) (es : List Entry) (p : CertificationRequestParts) → IsOutline x es →
    ((ns : Nodes) (held : Tree ℕ → Trees ℕ) → IsStructure x ns → AreHeld ns held →
    AreRequestFields ns held 0 p.certification_request p.certification_request_info p.subject_public_key_info) →
    IsRequest x (records_in es p)
IsRequest-found x es p o found =
    let (ns, d, are) = AreRecords-outline x es o in
    let h = AreHeld-held_in x ns d in
    IsRequest-records x ns es are (held_in ns) p d h (found ns (held_in ns) d h)
