-- The grammar without empty groups: it is this crate's, but that a SEQUENCE or SET has at least one item.
use Rattle.std.specs.Prelude.{◌≡◌, ◌≢◌, ℕ, ◌<◌, ◌++◌, Bool, List, [], length}
use Rattle.asn1_headers.specs.declared.header.ASN1Class.{ASN1Class}
use Rattle.asn1_headers.specs.declared.header.ASN1Class.TheVariants.{Universal}
use Rattle.asn1_blocks.specs.declared.block.GroupKind.{GroupKind}
use Rattle.asn1_numbers.specs.Octets.{FitInSlice}
use Rattle.asn1_headers.specs.Header.{Encoding}
use Rattle.asn1_blocks.specs.Tree.{Leaf, Trees}
use Rattle.asn1_blocks.specs.Contents.{leaf_tag, group_tag, IsUnknownTag, LeafContents}
use Rattle.asn1_blocks.specs.Grammar.{IsBlock, AreBlocks, IsDocument}

mutual
  -- the octets are a block, and no SEQUENCE or SET that is read in it is empty
  pub data IsFullBlock : List ℕ → Type 0 where
    full_not_universal :
        {octets : List ℕ} {c : ASN1Class} {k : Bool} {n : ℕ} {contents : List ℕ} {h : ℕ} →
        Encoding octets c k n contents h → c ≢ Universal → IsFullBlock octets
    full_unknown_tag :
        {octets : List ℕ} {k : Bool} {n : ℕ} {contents : List ℕ} {h : ℕ} →
        Encoding octets Universal k n contents h → IsUnknownTag n → IsFullBlock octets
    full_leaf :
        {octets : List ℕ} {k : Bool} {n : ℕ} {contents : List ℕ} {h : ℕ} →
        Encoding octets Universal k n contents h →
        (l : Leaf) → n ≡ leaf_tag l → LeafContents l contents → IsFullBlock octets
    full_group :
        {octets : List ℕ} {k : Bool} {n : ℕ} {contents : List ℕ} {h : ℕ} →
        Encoding octets Universal k n contents h →
        (g : GroupKind) → n ≡ group_tag g → 0 < length contents → AreFullBlocks contents →
        IsFullBlock octets

  -- the octets are blocks without empty groups, one after another, or there are none
  pub data AreFullBlocks : List ℕ → Type 0 where
    no_full_blocks : AreFullBlocks []
    more_full_blocks :
        {octets x rest : List ℕ} →
        octets ≡ x ++ rest → IsFullBlock x → AreFullBlocks rest → AreFullBlocks octets

-- the grammar with empty groups reads all that it reads without them
pub record IsWiderThanFullGroups : Type 0 where
  pub block : (octets : List ℕ) → IsFullBlock octets → IsBlock octets
  pub blocks : (octets : List ℕ) → AreFullBlocks octets → AreBlocks octets
  -- octets that are blocks without empty groups are a document
  pub document :
      (octets : List ℕ) →
      FitInSlice octets → 0 < length octets → AreFullBlocks octets →
      (bs : Trees ℕ) × IsDocument octets bs
