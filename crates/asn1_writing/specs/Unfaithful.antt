-- Why a block is not read back as it is, once it is written.
use Rattle.std.specs.Prelude.{◌≡◌, ◌++◌, ◌∷◌, ℕ, All, List, Option, None, Some, length}
use Rattle.asn1_headers.specs.declared.header.ASN1Class.{ASN1Class}
use Rattle.asn1_headers.specs.declared.header.ASN1Class.TheVariants.{Universal}
use Rattle.asn1_blocks.specs.BlockParts.{in_order}
use Rattle.asn1_blocks.specs.Contents.{IsFaithfulLeaf}
use Rattle.asn1_blocks.specs.Grammar.{StaysAsItCame}
use Rattle.asn1_blocks.specs.Tree.{Leaf, Tree, bit_string, explicit, generalized_time, group, leaf, object_identifier, text, unknown, utc_time}
use Rattle.asn1_writing.specs.declared.faithful.UnfaithfulErr.{UnfaithfulErr}
use Rattle.asn1_writing.specs.declared.faithful.UnfaithfulErr.TheVariants.{BitString, Characters, ExplicitUniversal, GeneralizedTime, KnownTag, ObjectIdentifier, OneBlock, UtcTime}

-- what a leaf can fail in
abbrev pub leaf_failure : Leaf → Option UnfaithfulErr
leaf_failure (bit_string n v) = Some BitString
leaf_failure (object_identifier ns) = Some ObjectIdentifier
leaf_failure (text kind cs) = Some Characters
leaf_failure (utc_time m) = Some UtcTime
leaf_failure (generalized_time m) = Some GeneralizedTime
leaf_failure _ = None

-- what an encoding that is kept as it came can fail in: its tag has a rule, or its contents octets are one block
abbrev pub unknown_failure : ASN1Class → UnfaithfulErr
unknown_failure Universal = KnownTag
unknown_failure _ = OneBlock

-- the tree itself is not read back, whatever it holds, for this reason
abbrev pub FailsBy : {O : Type 0} → Tree O → UnfaithfulErr → Type 0
FailsBy (leaf o l) reason = (IsFaithfulLeaf l → ⊥) × (leaf_failure l ≡ Some reason)
FailsBy (group o g bs) reason = ⊥
FailsBy (explicit class o tag b) reason = (class ≡ Universal) × (reason ≡ ExplicitUniversal)
FailsBy (unknown class constructed o tag contents) reason =
    (StaysAsItCame class constructed tag contents → ⊥) × (reason ≡ unknown_failure class)

-- in tree order, the first tree that fails has this index, and this reason
pub record FailsFirst (b : Tree ℕ) (index : ℕ) (reason : UnfaithfulErr) : Type 0 where
  pub before : List (Tree ℕ)
  pub failing : Tree ℕ
  pub after : List (Tree ℕ)
  pub order : in_order b ≡ before ++ failing ∷ after
  pub index_is : index ≡ length before
  pub none_before : All (λ t. (other : UnfaithfulErr) → FailsBy t other → ⊥) before
  pub fails : FailsBy failing reason
