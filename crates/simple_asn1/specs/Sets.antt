-- SETs whose items DER has in order (X.690 10.3, 11.6).
use Rattle.std.specs.Prelude.{◌≡◌, ℕ, List, [], ◌∷◌, map}
use Rattle.std.specs.List.Sorted.{IsPermutation}
use Rattle.asn1_blocks.specs.BlockParts.{tree_tag}
use Rattle.asn1_blocks.specs.Tree.{Tree, group}
use Rattle.asn1_blocks.specs.View.{tree_class, view, views}
use Rattle.asn1_blocks.specs.declared.block.ASN1Block.{ASN1Block}
use Rattle.asn1_blocks.specs.declared.block.GroupKind.TheVariants.{Set}
use Rattle.asn1_der.specs.Der.{Ascend, HasNoGreaterOctets}
use Rattle.asn1_headers.specs.Header.{class_number}

-- the tag: its class, and then its number (X.680 8.6)
abbrev pub tag_key : Tree ℕ → List ℕ
tag_key b = class_number (tree_class b) ∷ tree_tag b ∷ []

-- the blocks in another order, in which none has a greater key than the next: keys are compared number by number
pub record IsSortedFrom (key : Tree ℕ → List ℕ) (blocks sorted : List ASN1Block) : Type 0 where
  pub same : IsPermutation blocks sorted
  pub ascending : Ascend HasNoGreaterOctets (map (λ block. key (view block)) sorted)

-- a SET of the blocks in this order
pub record IsSetBy (key : Tree ℕ → List ℕ) (blocks : List ASN1Block) (b : Tree ℕ) : Type 0 where
  pub sorted : List ASN1Block
  pub from : IsSortedFrom key blocks sorted
  pub block : b ≡ group 0 Set (views sorted)
