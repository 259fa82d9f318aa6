-- What a look at one encoding finds out. Private contracts alone name these.
use Rattle.std.specs.Prelude.{◌≡◌, ◌⊎◌, ◌++◌, ℕ, Bool, true, false, List}
use Rattle.asn1_headers.specs.Header.{Encoding}
use Rattle.asn1_headers.specs.declared.header.ASN1Class.{ASN1Class}
use Rattle.asn1_headers.specs.declared.header.ASN1Class.TheVariants.{Universal}
use Rattle.asn1_blocks.specs.declared.block.GroupKind.{GroupKind}
use Rattle.asn1_blocks.specs.Contents.{LeafContents, group_tag, leaf_contents, leaf_tag}
use Rattle.asn1_blocks.specs.Tree.{Leaf}
use Rattle.asn1_writing.specs.Canonical.{shortest_encoding}

-- an encoding of these fields, in which no octet but those inside it could be another: its header is the shortest, and
-- the contents octets of a leaf are those that are written
pub record IsCanonicalEncoding (octets : List ℕ) (class : ASN1Class) (constructed : Bool) (tag : ℕ)
    (contents : List ℕ) : Type 0 where
  pub shortest : octets ≡ shortest_encoding class constructed tag contents
  pub group : class ≡ Universal → (g : GroupKind) → tag ≡ group_tag g → constructed ≡ true
  pub primitive : class ≡ Universal → (l : Leaf) → tag ≡ leaf_tag l → constructed ≡ false
  pub leaf :
      class ≡ Universal → (l : Leaf) → tag ≡ leaf_tag l → LeafContents l contents →
      contents ≡ leaf_contents l

-- whatever encoding stands at the front of the octets is a canonical encoding
abbrev pub BeginsCanonical : List ℕ → Type 0
BeginsCanonical octets = (own rest : List ℕ) (class : ASN1Class) (constructed : Bool) (tag : ℕ)
    (contents : List ℕ) (header : ℕ) → octets ≡ own ++ rest →
    Encoding own class constructed tag contents header →
    IsCanonicalEncoding own class constructed tag contents

-- leading octets: of a SEQUENCE, a SET, an OCTET STRING, a UTF8String, a PrintableString, an IA5String and a UTCTime
abbrev pub IsOfOneForm : ℕ → Type 0
IsOfOneForm leading = (leading ≡ 48) ⊎ (leading ≡ 49) ⊎ (leading ≡ 4) ⊎ (leading ≡ 12)
    ⊎ (leading ≡ 19) ⊎ (leading ≡ 22) ⊎ (leading ≡ 23)
