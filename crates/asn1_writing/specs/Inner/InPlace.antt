-- What a look at octets in place finds out. Private contracts alone name these.
use Rattle.std.specs.Prelude.{◌≡◌, ◌≢◌, ℕ, ◌+◌, ◌≤◌, ◌⊎◌, ◌++◌, Bool, true, false, List, length, take}
use Rattle.asn1_headers.specs.declared.header.ASN1Class.{ASN1Class}
use Rattle.asn1_headers.specs.declared.header.ASN1Class.TheVariants.{Universal}
use Rattle.asn1_headers.specs.declared.whole_header.Header.{Header}
use Rattle.asn1_headers.specs.Header.{shortest_identifier, shortest_length}
use Rattle.asn1_blocks.specs.declared.block.GroupKind.{GroupKind}
use Rattle.asn1_blocks.specs.declared.block.GroupKind.TheVariants.{Sequence, Set}
use Rattle.asn1_blocks.specs.Contents.{LeafContents, group_tag, leaf_contents, leaf_tag}
use Rattle.asn1_blocks.specs.Grammar.{EncodesAll}
use Rattle.asn1_blocks.specs.Tree.{Leaf, Trees}
use Rattle.asn1_writing.specs.Canonical.{all_canonical}

-- whatever trees the octets encode, one after another, they are their canonical octets
abbrev pub AreCanonical : List ℕ → Type 0
AreCanonical octets = (offset : ℕ) (bs : Trees ℕ) → EncodesAll offset octets bs → octets ≡ all_canonical bs

-- contents octets behind identifier octets of these fields, which are no SEQUENCE or SET, are canonical whatever they
-- mean
pub record AreCanonicalContents (class : ASN1Class) (constructed : Bool) (tag : ℕ) (contents : List ℕ)
    : Type 0 where
  pub no_group : class ≡ Universal → (g : GroupKind) → tag ≡ group_tag g → ⊥
  pub primitive : class ≡ Universal → (l : Leaf) → tag ≡ leaf_tag l → constructed ≡ false
  pub leaf :
      class ≡ Universal → (l : Leaf) → tag ≡ leaf_tag l → LeafContents l contents →
      contents ≡ leaf_contents l
  pub within : class ≢ Universal → constructed ≡ true → AreCanonical contents

-- the octets begin with this header, whose identifier and length octets are the shortest
pub record BeginsShortest (octets : List ℕ) (header : Header) : Type 0 where
  pub within : header.size ≤ length octets
  pub shortest : take header.size octets
      ≡ shortest_identifier header.class header.constructed header.tag ++ shortest_length header.announced

-- the header is that of a constructed SEQUENCE or SET
abbrev pub IsOfGroup : Header → Type 0
IsOfGroup header =
    (header.class ≡ Universal) × (header.constructed ≡ true)
    × ((header.tag ≡ group_tag Sequence) ⊎ (header.tag ≡ group_tag Set))

-- the octets are canonical if the octets within and the octets after are, which are fewer by two or more
pub record LeavesBoth (octets within after : List ℕ) : Type 0 where
  pub canonical : AreCanonical within → AreCanonical after → AreCanonical octets
  pub fewer : length within + length after + 2 ≤ length octets
