-- What is left of the fields that are being read: the indices of their entries; and which tree holds those at indices.
use Rattle.std.specs.Prelude.{◌≡◌, ℕ, Bool, false, true, List, [], ◌∷◌, map, Option, None, Some, IfSome}
use Rattle.asn1_blocks.specs.declared.block.GroupKind.{GroupKind}
use Rattle.asn1_headers.specs.declared.header.ASN1Class.TheVariants.{ContextSpecific}
use Rattle.asn1_headers.specs.declared.tags.TheConstants.{BIT_STRING}
use Rattle.asn1_blocks.specs.Tree.{Tree, Trees, explicit, group, trees_of}
use Rattle.asn1_outline.specs.declared.entry.Entry.{Entry}
use Rattle.asn1_certificate.specs.declared.fields.Fields.{Fields}
use Rattle.asn1_outline.specs.Structure.{Nodes, tree_at}
use Rattle.asn1_certificate.specs.Sequences.{Found, field, is_leaf, no_more}
use Rattle.asn1_certificate.specs.Types.{is_algorithm_identifier}

-- the indices of the first field that is left, if there is one, and of the others
abbrev pub indices_left : Option ℕ → List (ℕ × Entry) → List ℕ
indices_left None others = []
indices_left (Some first) others = first ∷ map (λ (item : ℕ × Entry). item.0) others

-- the indices of the fields that were not taken yet
abbrev pub left : Fields → List ℕ
left fields = indices_left fields.next fields.others

-- the first index
abbrev pub first_of_indices : List ℕ → Option ℕ
first_of_indices [] = None
first_of_indices (k ∷ ks) = Some k

-- whether there is an index
abbrev pub some_index : List ℕ → Bool
some_index [] = false
some_index (k ∷ ks) = true

-- the trees at the indices
abbrev pub trees_at : Nodes → List ℕ → Trees ℕ
trees_at ns ks = trees_of (map (tree_at ns) ks)

-- the test says whether the tree at the first index is of the type
abbrev pub Tells : Nodes → (Tree ℕ → Bool) → Bool → List ℕ → Type 0
Tells ns is told ks = IfSome (first_of_indices ks) (λ k. told ≡ is (tree_at ns k))

-- the tree is a SEQUENCE or SET of these trees
abbrev pub IsGroupOf : GroupKind → Trees ℕ → Tree ℕ → Type 0
IsGroupOf kind items b = (o : ℕ) × (b ≡ group o kind items)

-- the tree is the other in explicit tagging, with a tag of class context-specific
abbrev pub IsTagged : ℕ → Tree ℕ → Tree ℕ → Type 0
IsTagged tag inside b = (o : ℕ) × (b ≡ explicit ContextSpecific o tag inside)

-- SIGNED{} (RFC 5912, 14), behind what is signed: the algorithm, and the signature
abbrev pub signature_fields : Trees ℕ → Option Found
signature_fields =
    field is_algorithm_identifier
    (field (is_leaf BIT_STRING)
    no_more)
