-- What stands in a SEQUENCE (X.680 25), a SEQUENCE OF (26) and explicit tagging (31), over trees. A definition of a
-- type names its fields, in order, and says of a tree which fields it has.
use Rattle.std.specs.Prelude.{◌==◌, ◌&&◌, ◌||◌, ◌*◌, ◌^◌, ℕ, length, nat_lt, not, Bool, true, false, if◌then◌else◌, List, [], ◌∷◌, Option, None, Some}
use Rattle.asn1_headers.specs.declared.header.ASN1Class.TheVariants.{ContextSpecific}
use Rattle.asn1_blocks.specs.declared.block.GroupKind.TheVariants.{Sequence, Set}
use Rattle.asn1_blocks.specs.Contents.{leaf_tag}
use Rattle.asn1_blocks.specs.Tree.{Tree, Trees, explicit, group, leaf, more_trees, no_trees, unknown}

-- what was found of fields, in order: the tree of each, or none where an optional one is absent
abbrev pub Found : Type 0
Found = List (Option (Tree ℕ))

-- what was found of a field, and then of those behind it
abbrev pub found_then : Option (Tree ℕ) → Option Found → Option Found
found_then b None = None
found_then b (Some found) = Some (b ∷ found)

-- no more fields
abbrev pub no_more : Trees ℕ → Option Found
no_more no_trees = Some []
no_more (more_trees b bs) = None

-- a field of the type, and then the others
abbrev pub field : (Tree ℕ → Bool) → (Trees ℕ → Option Found) → Trees ℕ → Option Found
field is others no_trees = None
field is others (more_trees b bs) = if is b then found_then (Some b) (others bs) else None

-- a field of the type that is OPTIONAL or has a DEFAULT: it is there if the next tree is of its type
abbrev pub optional : (Tree ℕ → Bool) → (Trees ℕ → Option Found) → Trees ℕ → Option Found
optional is others no_trees = found_then None (others no_trees)
optional is others (more_trees b bs) =
    if is b then found_then (Some b) (others bs) else found_then None (others (more_trees b bs))

-- a SEQUENCE of these fields
abbrev pub sequence : (Trees ℕ → Option Found) → Tree ℕ → Option Found
sequence fields (group o Sequence items) = fields items
sequence fields b = None

-- the fields were found
abbrev pub is_found : Option Found → Bool
is_found None = false
is_found (Some found) = true

-- each tree is of the type
abbrev pub each : (Tree ℕ → Bool) → Trees ℕ → Bool
each is no_trees = true
each is (more_trees b bs) = is b && each is bs

-- there is a tree
abbrev pub some : Trees ℕ → Bool
some no_trees = false
some (more_trees b bs) = true

-- a SEQUENCE OF the type; of one or more
abbrev pub sequence_of : (Tree ℕ → Bool) → Tree ℕ → Bool
sequence_of is (group o Sequence items) = each is items
sequence_of is b = false

abbrev pub sequence_of_some : (Tree ℕ → Bool) → Tree ℕ → Bool
sequence_of_some is (group o Sequence items) = some items && each is items
sequence_of_some is b = false

-- a SET OF the type, of one or more
abbrev pub set_of_some : (Tree ℕ → Bool) → Tree ℕ → Bool
set_of_some is (group o Set items) = some items && each is items
set_of_some is b = false

-- the type in explicit tagging, with a tag of class context-specific
abbrev pub tagged : ℕ → (Tree ℕ → Bool) → Tree ℕ → Bool
tagged tag is (explicit ContextSpecific o n b) = (n == tag) && is b
tagged tag is b = false

-- contents octets hold these trees, each of the type: there are none where octets are no encodings
abbrev pub are_each : (Tree ℕ → Bool) → List ℕ → Trees ℕ → Bool
are_each is contents items = (some items || (length contents == 0)) && each is items

-- a SET OF the type in implicit tagging, with a tag of class context-specific. Its contents octets are encodings; held
-- says of which trees
abbrev pub tagged_set_of : (Tree ℕ → Trees ℕ) → ℕ → (Tree ℕ → Bool) → Tree ℕ → Bool
tagged_set_of held tag is (explicit ContextSpecific o n b) = (n == tag) && is b
tagged_set_of held tag is (unknown ContextSpecific true o n contents) =
    (n == tag) && are_each is contents (held (unknown ContextSpecific true o n contents))
tagged_set_of held tag is b = false

-- contents octets of a BIT STRING, as the library reads them: none, or the number of unused bits and the octets of the
-- bits, which a usize can count
abbrev pub are_bits : List ℕ → Bool
are_bits [] = true
are_bits (unused ∷ octets) = nat_lt (8 * length octets) (2 ^ 64) && not (nat_lt (8 * length octets) unused)

-- a primitive BIT STRING in implicit tagging, with a tag of class context-specific
abbrev pub is_bits : ℕ → Tree ℕ → Bool
is_bits tag (unknown ContextSpecific false o n contents) = (n == tag) && are_bits contents
is_bits tag b = false

-- a leaf with the tag of class Universal
abbrev pub is_leaf : ℕ → Tree ℕ → Bool
is_leaf tag (leaf o l) = leaf_tag l == tag
is_leaf tag b = false
