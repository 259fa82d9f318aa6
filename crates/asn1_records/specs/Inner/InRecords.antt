-- What a look at records finds out of the encodings that they spell.
use Rattle.std.specs.Prelude.{◌≡◌, ◌≢◌, ◌⊎◌, ℕ, List, [], ◌∷◌}
use Rattle.asn1_headers.specs.declared.header.ASN1Class.{ASN1Class}
use Rattle.asn1_headers.specs.declared.header.ASN1Class.TheVariants.{Universal}
use Rattle.asn1_blocks.specs.declared.block.GroupKind.{GroupKind}
use Rattle.asn1_blocks.specs.Contents.{LeafContents, group_tag, leaf_contents, leaf_tag}
use Rattle.asn1_blocks.specs.Grammar.{Encodes}
use Rattle.asn1_blocks.specs.Tree.{Leaf, Tree}
use Rattle.simple_asn1.specs.Canonical.{canonical}

-- at whatever offset, the octets encode a tree, and are its canonical octets
abbrev pub IsCanonicalBlock : List ℕ → Type 0
IsCanonicalBlock octets = (offset : ℕ) → (b : Tree ℕ) × Encodes offset octets b × (canonical b ≡ octets)

abbrev pub AreCanonicalBlocks : List (List ℕ) → Type 0
AreCanonicalBlocks [] = Unit {0}
AreCanonicalBlocks (x ∷ xs) = IsCanonicalBlock x × AreCanonicalBlocks xs

-- the contents octets mean a leaf with this tag number, and are written of it
abbrev pub AreWrittenOfLeaf : ℕ → List ℕ → Type 0
AreWrittenOfLeaf tag contents =
    (l : Leaf) × (tag ≡ leaf_tag l) × LeafContents l contents × (leaf_contents l ≡ contents)

-- how many blocks an encoding of this class with this tag number may hold to be a block: any number in a SEQUENCE or
-- SET, one in another class
abbrev pub HoldsBlocks : ASN1Class → ℕ → ℕ → Type 0
HoldsBlocks class tag items =
    ((class ≡ Universal) × (g : GroupKind) × (tag ≡ group_tag g)) ⊎ ((class ≢ Universal) × (items ≡ 1))
