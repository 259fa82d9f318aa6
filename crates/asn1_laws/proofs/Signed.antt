-- A tree of a type that is signed is that of a signed triple, whose content is its first field.
use Rattle.std.proofs.Common.{◌≡◌, ◌∙◌, ℕ, Bool, true, false, List, [], ◌∷◌, Option, None, Some, ap, refl, subst, sym}
use Rattle.std.specs.Prelude.{if◌then◌else◌}
use Rattle.std.proofs.lemmas.Bool.{false≢true}
use Rattle.asn1_headers.specs.declared.tags.TheConstants.{BIT_STRING, OBJECT_IDENTIFIER}
use Rattle.asn1_leaves.specs.StringKind.{bmp, ia5, printable, teletex, universal, utf8}
use Rattle.asn1_blocks.specs.declared.block.GroupKind.TheVariants.{Sequence, Set}
use Rattle.asn1_blocks.specs.Grammar.{IsDocument}
use Rattle.asn1_blocks.specs.Tree.{Tree, Trees, bit_string, boolean, explicit, generalized_time, group, integer, leaf, more_trees, no_trees, null, object_identifier, octet_string, text, unknown, utc_time}
use Rattle.asn1_outline.specs.Structure.{IsStructure, Nodes, more_nodes, no_nodes, node, nodes_trees, tree_at}
use Rattle.simple_asn1.specs.SignedTrees.{SignedParts, algorithm_tree, signed_tree}
use Rattle.asn1_certificate.specs.Reading.{signature_fields}
use Rattle.asn1_certificate.specs.Sequences.{Found, field, found_then, is_found, is_leaf, no_more, optional, sequence}
use Rattle.asn1_certificate.specs.Types.{is_algorithm_identifier, is_any}
use Rattle.asn1_laws.specs.Signed.{IsSignedWith}

-- what was found of a field, and of those behind it
found_then-parts : (x y : Option (Tree ℕ)) (o : Option Found) (ys : Found) → found_then x o ≡ Some (y ∷ ys) →
    (x ≡ y) × (o ≡ Some ys)
found_then-parts x y None ys e =
    let none : None ≡ Some (y ∷ ys) = e in
    absurd (cc)
found_then-parts x y (Some zs) ys e =
    let both : Some (x ∷ zs) ≡ Some (y ∷ ys) = e in
    let first : x ≡ y = cc in
    let rest : zs ≡ ys = cc in
    (first, ap Some rest)

-- fields of a SEQUENCE that were found are those of its items
sequence-group : (fields : Trees ℕ → Option Found) (b : Tree ℕ) (ys : Found) → sequence fields b ≡ Some ys →
    (o : ℕ) × (items : Trees ℕ) × (b ≡ group o Sequence items) × (fields items ≡ Some ys)
sequence-group fields (group o Sequence items) ys e = (o, items, refl, e)
sequence-group fields (group o Set items) ys e =
    let none : None ≡ Some ys = e in
    absurd (cc)
sequence-group fields (leaf o l) ys e =
    let none : None ≡ Some ys = e in
    absurd (cc)
sequence-group fields (explicit c o n b) ys e =
    let none : None ≡ Some ys = e in
    absurd (cc)
sequence-group fields (unknown c k o n v) ys e =
    let none : None ≡ Some ys = e in
    absurd (cc)

-- a field that was found is the first of the trees
field-first : (is : Tree ℕ → Bool) (others : Trees ℕ → Option Found) (bs : Trees ℕ) (b : Tree ℕ) (ys : Found) →
    field is others bs ≡ Some (Some b ∷ ys) →
    (is b ≡ true) × (cs : Trees ℕ) × (bs ≡ more_trees b cs) × (others cs ≡ Some ys)
field-first is others no_trees b ys e =
    let none : None ≡ Some (Some b ∷ ys) = e in
    absurd (cc)
field-first is others (more_trees a rest) b ys e = told (is a) refl e
  where
    told : (t : Bool) → is a ≡ t → (if t then found_then (Some a) (others rest) else None) ≡ Some (Some b ∷ ys) →
        (is b ≡ true) × (cs : Trees ℕ) × (more_trees a rest ≡ more_trees b cs) × (others cs ≡ Some ys)
    told true i f =
        let (first, same) = found_then-parts (Some a) (Some b) (others rest) ys f in
        let own : a ≡ b = cc in
        (ap is (sym own) ∙ i, rest, ap (λ z. more_trees z rest) own, same)
    told false i f =
        let none : None ≡ Some (Some b ∷ ys) = f in
        absurd (cc)

-- behind the last field stands no tree
no_more-none : (bs : Trees ℕ) → no_more bs ≡ Some [] → bs ≡ no_trees
no_more-none no_trees e = refl
no_more-none (more_trees b bs) e =
    let none : None ≡ Some [] = e in
    absurd (cc)

-- the components of an OBJECT IDENTIFIER
is_leaf-object_identifier : (b : Tree ℕ) → is_leaf OBJECT_IDENTIFIER b ≡ true →
    (o : ℕ) × (i : List ℕ) × (b ≡ leaf o (object_identifier i))
is_leaf-object_identifier (leaf o (object_identifier i)) e = (o, i, refl)
is_leaf-object_identifier (leaf o (boolean v)) e = absurd (false≢true e)
is_leaf-object_identifier (leaf o (integer n)) e = absurd (false≢true e)
is_leaf-object_identifier (leaf o (bit_string n v)) e = absurd (false≢true e)
is_leaf-object_identifier (leaf o (octet_string v)) e = absurd (false≢true e)
is_leaf-object_identifier (leaf o null) e = absurd (false≢true e)
is_leaf-object_identifier (leaf o (text utf8 cs)) e = absurd (false≢true e)
is_leaf-object_identifier (leaf o (text printable cs)) e = absurd (false≢true e)
is_leaf-object_identifier (leaf o (text teletex cs)) e = absurd (false≢true e)
is_leaf-object_identifier (leaf o (text ia5 cs)) e = absurd (false≢true e)
is_leaf-object_identifier (leaf o (text universal cs)) e = absurd (false≢true e)
is_leaf-object_identifier (leaf o (text bmp cs)) e = absurd (false≢true e)
is_leaf-object_identifier (leaf o (utc_time m)) e = absurd (false≢true e)
is_leaf-object_identifier (leaf o (generalized_time m)) e = absurd (false≢true e)
is_leaf-object_identifier (group o g bs) e = absurd (false≢true e)
is_leaf-object_identifier (explicit c o n b) e = absurd (false≢true e)
is_leaf-object_identifier (unknown c k o n v) e = absurd (false≢true e)

-- the bits of a BIT STRING
is_leaf-bit_string : (b : Tree ℕ) → is_leaf BIT_STRING b ≡ true →
    (o n : ℕ) × (v : List ℕ) × (b ≡ leaf o (bit_string n v))
is_leaf-bit_string (leaf o (bit_string n v)) e = (o, n, v, refl)
is_leaf-bit_string (leaf o (boolean v)) e = absurd (false≢true e)
is_leaf-bit_string (leaf o (integer n)) e = absurd (false≢true e)
is_leaf-bit_string (leaf o (octet_string v)) e = absurd (false≢true e)
is_leaf-bit_string (leaf o null) e = absurd (false≢true e)
is_leaf-bit_string (leaf o (object_identifier i)) e = absurd (false≢true e)
is_leaf-bit_string (leaf o (text utf8 cs)) e = absurd (false≢true e)
is_leaf-bit_string (leaf o (text printable cs)) e = absurd (false≢true e)
is_leaf-bit_string (leaf o (text teletex cs)) e = absurd (false≢true e)
is_leaf-bit_string (leaf o (text ia5 cs)) e = absurd (false≢true e)
is_leaf-bit_string (leaf o (text universal cs)) e = absurd (false≢true e)
is_leaf-bit_string (leaf o (text bmp cs)) e = absurd (false≢true e)
is_leaf-bit_string (leaf o (utc_time m)) e = absurd (false≢true e)
is_leaf-bit_string (leaf o (generalized_time m)) e = absurd (false≢true e)
is_leaf-bit_string (group o g bs) e = absurd (false≢true e)
is_leaf-bit_string (explicit c o n b) e = absurd (false≢true e)
is_leaf-bit_string (unknown c k o n v) e = absurd (false≢true e)

-- the first of fields is of the type
field-leads : (is : Tree ℕ → Bool) (others : Trees ℕ → Option Found) (bs : Trees ℕ) →
    is_found (field is others bs) ≡ true → (b : Tree ℕ) × (cs : Trees ℕ) × (bs ≡ more_trees b cs) × (is b ≡ true)
field-leads is others no_trees e = absurd (false≢true e)
field-leads is others (more_trees a rest) e = told (is a) refl e
  where
    told : (t : Bool) → is a ≡ t → is_found (if t then found_then (Some a) (others rest) else None) ≡ true →
        (b : Tree ℕ) × (cs : Trees ℕ) × (more_trees a rest ≡ more_trees b cs) × (is b ≡ true)
    told true i f = (a, rest, refl, i)
    told false i f = absurd (false≢true f)

-- an AlgorithmIdentifier is a SEQUENCE whose first item is an OBJECT IDENTIFIER
algorithm-group : (b : Tree ℕ) → is_algorithm_identifier b ≡ true →
    (o : ℕ) × (items : Trees ℕ) × (b ≡ group o Sequence items)
    × (is_found (field (is_leaf OBJECT_IDENTIFIER) (optional is_any no_more) items) ≡ true)
algorithm-group (group o Sequence items) e = (o, items, refl, e)
algorithm-group (group o Set items) e = absurd (false≢true e)
algorithm-group (leaf o l) e = absurd (false≢true e)
algorithm-group (explicit c o n b) e = absurd (false≢true e)
algorithm-group (unknown c k o n v) e = absurd (false≢true e)

-- the tree of a type that is signed
signed-tree : (is : Tree ℕ → Bool) (whole b a s : Tree ℕ) →
    sequence (field is signature_fields) whole ≡ Some (Some b ∷ Some a ∷ Some s ∷ []) →
    (p : SignedParts) × (whole ≡ signed_tree p) × (p.content ≡ b)
signed-tree is whole b a s e =
    let from_2 : Trees ℕ → Option Found = field (is_leaf BIT_STRING) no_more in
    let (o, items, whole_is, e0) = sequence-group (field is signature_fields) whole _ e in
    let (_, after_b, items_are, e1) = field-first is signature_fields items b _ e0 in
    let (of_a, after_a, then_a, e2) = field-first is_algorithm_identifier from_2 after_b a _ e1 in
    let (of_s, after_s, then_s, e3) = field-first (is_leaf BIT_STRING) no_more after_a s _ e2 in
    let none = no_more-none after_s e3 in
    let (algorithm_offset, inside, a_is, found) = algorithm-group a of_a in
    let (id, parameters, inside_is, of_id) =
    field-leads (is_leaf OBJECT_IDENTIFIER) (optional is_any no_more) inside found in
    let (identifier_offset, algorithm, id_is) = is_leaf-object_identifier id of_id in
    let (signature_offset, bits, signature, s_is) = is_leaf-bit_string s of_s in
    let p : SignedParts = record {
      offset = o;
      content = b;
      algorithm_offset = algorithm_offset;
      identifier_offset = identifier_offset;
      algorithm = algorithm;
      parameters = parameters;
      signature_offset = signature_offset;
      bits = bits;
      signature = signature;
    } in
    let a_tree = a_is ∙ ap (group algorithm_offset Sequence)
    (inside_is ∙ ap (λ z. more_trees z parameters) id_is) in
    let last = then_s ∙ ap (more_trees s) none ∙ ap (λ z. more_trees z no_trees) s_is in
    let behind = then_a ∙ ap (λ z. more_trees z after_a) a_tree ∙ ap (more_trees (algorithm_tree p)) last in
    (p, whole_is ∙ ap (group o Sequence) (items_are ∙ ap (more_trees b) behind), refl)

-- a document that begins with a type that is signed begins with a signed triple
pub IsSigned-found : (is : Tree ℕ → Bool) (octets : List ℕ) (ns : Nodes) (b a s : Tree ℕ) → IsStructure octets ns →
    sequence (field is signature_fields) (tree_at ns 0) ≡ Some (Some b ∷ Some a ∷ Some s ∷ []) →
    IsSignedWith octets b
IsSigned-found is octets no_nodes b a s d e =
    let none : None ≡ Some (Some b ∷ Some a ∷ Some s ∷ []) = e in
    absurd (cc)
IsSigned-found is octets (more_nodes (node whole inside) others) b a s (document, _) e =
    let (p, same, content) = signed-tree is whole b a s e in
    (p, (nodes_trees others, subst (λ z. IsDocument octets (more_trees z (nodes_trees others))) same document), content)
