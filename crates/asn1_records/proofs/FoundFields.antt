-- Fields that were found are of their types, so that each has a record: for `certificate`, `request` and
-- `revocation_list`.
use Rattle.std.proofs.Common.{◌≡◌, ℕ, zero, suc, Bool, true, false, List, [], ◌∷◌, Option, None, Some, inl, inr, get_or, length, map, refl, sym, ap, subst, ◌∙◌, arith}
use Rattle.std.specs.Prelude.{if◌then◌else◌, option_map, IfSome}
use Rattle.std.proofs.lemmas.Bool.{cases_lt, false≢true}
use Rattle.std.proofs.lemmas.List.{get_or_past}
use Rattle.asn1_headers.specs.declared.tags.TheConstants.{BIT_STRING}
use Rattle.asn1_blocks.specs.declared.block.GroupKind.TheVariants.{Sequence, Set}
use Rattle.asn1_outline.specs.declared.entry.Entry.{Entry}
use Rattle.simple_asn1.specs.Structure.{Nodes, no_node, no_tree, node_tree, nodes_in_order, tree_at}
use Rattle.simple_asn1.specs.Tree.{Tree, Trees, explicit, group, leaf, more_trees, no_trees, unknown}
use Rattle.asn1_certificate.specs.Reading.{signature_fields}
use Rattle.asn1_certificate.specs.Sequences.{Found, field, found_then, is_leaf, no_more, optional, sequence}
use Rattle.asn1_certificate.specs.Types.{is_algorithm_identifier, subject_public_key_info}
use Rattle.asn1_records.specs.Fields.{IsRecordIfAny}
use Rattle.asn1_records.specs.Inner.FieldRecords.{record_if_any, record_in}
use Rattle.asn1_records.specs.Records.{AreRecords, IsRecordAt, block_of, no_record}

-- what was found of a field, and of those behind it
found_then-parts : (x y : Option (Tree ℕ)) (o : Option Found) (ys : Found) → found_then x o ≡ Some (y ∷ ys) →
    (x ≡ y) × (o ≡ Some ys)
found_then-parts x y None ys e =
    let none : None ≡ Some (y ∷ ys) = e in
    absurd (cc)
found_then-parts x y (Some zs) ys e =
    let both : Some (x ∷ zs) ≡ Some (y ∷ ys) = e in
    let first : x ≡ y = cc in
    let rest : zs ≡ ys = cc in
    (first, ap Some rest)

-- the fields of a SEQUENCE that was found are those of its items
pub sequence-items : (fields : Trees ℕ → Option Found) (b : Tree ℕ) (ys : Found) → sequence fields b ≡ Some ys →
    (items : Trees ℕ) × (fields items ≡ Some ys)
sequence-items fields (group p Sequence bs) ys e = (bs, e)
sequence-items fields (group p Set bs) ys e =
    let none : None ≡ Some ys = e in
    absurd (cc)
sequence-items fields (leaf p l) ys e =
    let none : None ≡ Some ys = e in
    absurd (cc)
sequence-items fields (explicit c p m b) ys e =
    let none : None ≡ Some ys = e in
    absurd (cc)
sequence-items fields (unknown c k p m v) ys e =
    let none : None ≡ Some ys = e in
    absurd (cc)

module _ (is : Tree ℕ → Bool) (others : Trees ℕ → Option Found) where
  -- a field that was found is of its type
  pub field-typed : (bs : Trees ℕ) (b : Tree ℕ) (ys : Found) → field is others bs ≡ Some (Some b ∷ ys) →
      (is b ≡ true) × (cs : Trees ℕ) × (others cs ≡ Some ys)
  field-typed no_trees b ys e =
      let none : None ≡ Some (Some b ∷ ys) = e in
      absurd (cc)
  field-typed (more_trees a rest) b ys e = told (is a) refl e
    where
      told : (t : Bool) → is a ≡ t → (if t then found_then (Some a) (others rest) else None) ≡ Some (Some b ∷ ys) →
          (is b ≡ true) × (cs : Trees ℕ) × (others cs ≡ Some ys)
      told true i f =
          let (first, same) = found_then-parts (Some a) (Some b) (others rest) ys f in
          let own : a ≡ b = cc in
          (ap is (sym own) ∙ i, rest, same)
      told false i f =
          let none : None ≡ Some (Some b ∷ ys) = f in
          absurd (cc)

  -- an optional field that was found is of its type
  pub optional-typed : (bs : Trees ℕ) (x : Option (Tree ℕ)) (ys : Found) → optional is others bs ≡ Some (x ∷ ys) →
      IfSome x (λ b. is b ≡ true) × (cs : Trees ℕ) × (others cs ≡ Some ys)
  optional-typed no_trees x ys e =
      let (first, same) = found_then-parts None x (others no_trees) ys e in
      (subst (λ z. IfSome z (λ b. is b ≡ true)) first tt, no_trees, same)
  optional-typed (more_trees a rest) x ys e = told (is a) refl e
    where
      told : (t : Bool) → is a ≡ t →
          (if t then found_then (Some a) (others rest) else found_then None (others (more_trees a rest)))
          ≡ Some (x ∷ ys) →
          IfSome x (λ b. is b ≡ true) × (cs : Trees ℕ) × (others cs ≡ Some ys)
      told true i f =
          let (first, same) = found_then-parts (Some a) x (others rest) ys f in
          (subst (λ z. IfSome z (λ b. is b ≡ true)) first i, rest, same)
      told false i f =
          let (first, same) = found_then-parts None x (others (more_trees a rest)) ys f in
          (subst (λ z. IfSome z (λ b. is b ≡ true)) first tt, more_trees a rest, same)

-- the types of what is signed, of its algorithm and of the signature
pub record SignedTypes (is : Tree ℕ → Bool) (b a s : Tree ℕ) : Type 0 where
  pub content : is b ≡ true
  pub algorithm : is_algorithm_identifier a ≡ true
  pub signature : is_leaf BIT_STRING s ≡ true

pub SignedTypes-found : (is : Tree ℕ → Bool) (whole b a s : Tree ℕ) →
    sequence (field is signature_fields) whole ≡ Some (Some b ∷ Some a ∷ Some s ∷ []) →
    SignedTypes is b a s
SignedTypes-found is whole b a s e =
    let from_2 : Trees ℕ → Option Found = field (is_leaf BIT_STRING) no_more in
    let from_1 : Trees ℕ → Option Found = field is_algorithm_identifier from_2 in
    let (cs, e0) = sequence-items (field is from_1) whole _ e in
    let (t0, cs1, e1) = field-typed is from_1 cs b _ e0 in
    let (t1, cs2, e2) = field-typed is_algorithm_identifier from_2 cs1 a _ e1 in
    let (t2, cs3, e3) = field-typed (is_leaf BIT_STRING) no_more cs2 s _ e2 in
    record { content = t0; algorithm = t1; signature = t2 }

-- the types of the fields of a public key
pub KeyTypes-found : (whole b c : Tree ℕ) → subject_public_key_info whole ≡ Some (Some b ∷ Some c ∷ []) →
    (is_algorithm_identifier b ≡ true) × (is_leaf BIT_STRING c ≡ true)
KeyTypes-found whole b c e =
    let from_1 : Trees ℕ → Option Found = field (is_leaf BIT_STRING) no_more in
    let (cs, e0) = sequence-items (field is_algorithm_identifier from_1) whole _ e in
    let (t0, cs1, e1) = field-typed is_algorithm_identifier from_1 cs b _ e0 in
    let (t1, cs2, e2) = field-typed (is_leaf BIT_STRING) no_more cs1 c _ e1 in
    (t0, t1)

-- the record of the entry at an index is that in the list of records
record_in-map : (es : List Entry) (k : ℕ) → record_in es k ≡ get_or (map block_of es) k no_record
record_in-map [] k = refl
record_in-map (e ∷ es) zero = refl
record_in-map (e ∷ es) (suc k) = record_in-map es k

module _ (x : List ℕ) (ns : Nodes) (es : List Entry) (are : AreRecords x ns (map block_of es)) where
  -- a tree of a type that no_tree is not of has a record
  pub IsRecordAt-typed : (is : Tree ℕ → Bool) → is no_tree ≡ false → (k : ℕ) → is (tree_at ns k) ≡ true →
      IsRecordAt x ns k (record_in es k)
  IsRecordAt-typed is other k told = elim (cases_lt k (length (nodes_in_order ns))) [
    | inl lt ↦
        subst (IsRecordAt x ns k) (sym (record_in-map es k)) (are.1 k (omega (arith, lt, are.0)))
    | inr ge ↦
        let past : tree_at ns k ≡ no_tree = ap node_tree (get_or_past (nodes_in_order ns) k no_node ge) in
        absurd (false≢true (sym other ∙ sym (ap is past) ∙ told))
  ]

  -- so has one that may be absent
  pub IsRecordIfAny-typed : (is : Tree ℕ → Bool) → is no_tree ≡ false → (k : Option ℕ) →
      IfSome (option_map (tree_at ns) k) (λ b. is b ≡ true) → IsRecordIfAny x ns k (record_if_any es k)
  IsRecordIfAny-typed is other None told = refl
  IsRecordIfAny-typed is other (Some k) told = IsRecordAt-typed is other k told
