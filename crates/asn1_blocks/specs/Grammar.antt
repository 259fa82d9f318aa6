-- The documents, their blocks, and the first fault of all other octets. A block is an encoding (X.690 8.1.1): a leaf, a
-- SEQUENCE (8.9, 8.10), a SET (8.11, 8.12), one block in explicit tagging (8.14), or any other, which stays as it came.
use Rattle.std.specs.Prelude.{◌≡◌, ◌≢◌, ℕ, ◌+◌, ◌<◌, ◌⊎◌, ◌++◌, Bool, true, List, [], length}
use Rattle.asn1_headers.specs.declared.header.ASN1Class.{ASN1Class}
use Rattle.asn1_headers.specs.declared.header.ASN1Class.TheVariants.{Universal}
use Rattle.asn1_blocks.specs.declared.block.GroupKind.{GroupKind}
use Rattle.asn1_headers.specs.Header.{Encoding}
use Rattle.asn1_headers.specs.Fault.{DecodeFault, empty_buffer}
use Rattle.asn1_headers.specs.HeaderFault.{HeaderFault}
use Rattle.asn1_blocks.specs.Tree.{Leaf, Tree, Trees, leaf, group, explicit, unknown, no_trees, more_trees}
use Rattle.asn1_blocks.specs.Contents.{leaf_tag, group_tag, IsUnknownTag, LeafContents, LeafFault}

mutual
  -- the octets are a block
  pub data IsBlock : List ℕ → Type 0 where
    of_not_universal : {octets contents : List ℕ} {class : ASN1Class} {constructed : Bool} {tag header : ℕ}
        → Encoding octets class constructed tag contents header → class ≢ Universal → IsBlock octets
    of_unknown_tag : {octets contents : List ℕ} {constructed : Bool} {tag header : ℕ}
        → Encoding octets Universal constructed tag contents header → IsUnknownTag tag → IsBlock octets
    of_leaf : {octets contents : List ℕ} {constructed : Bool} {tag header : ℕ}
        → Encoding octets Universal constructed tag contents header → (l : Leaf) → tag ≡ leaf_tag l
        → LeafContents l contents → IsBlock octets
    of_group : {octets contents : List ℕ} {constructed : Bool} {tag header : ℕ}
        → Encoding octets Universal constructed tag contents header → (g : GroupKind) → tag ≡ group_tag g
        → AreBlocks contents → IsBlock octets

  -- the octets are blocks one after another, also none
  pub data AreBlocks : List ℕ → Type 0 where
    no_blocks : AreBlocks []
    more_blocks : {octets x rest : List ℕ} → octets ≡ x ++ rest → IsBlock x → AreBlocks rest
        → AreBlocks octets

-- contents octets with these fields are not read as more: their tag has no rule, or they are of another class and are
-- not one block in a constructed encoding
abbrev pub StaysAsItCame : ASN1Class → Bool → ℕ → List ℕ → Type 0
StaysAsItCame class constructed tag contents = ((class ≡ Universal) × IsUnknownTag tag)
    ⊎ ((class ≢ Universal) × ((constructed ≡ true) × IsBlock contents → ⊥))

-- the octets are those of a first item, and then the rest, which begins after as many octets
pub record EncodedFirst (octets : List ℕ) (First : List ℕ → Type 0)
    (Rest : ℕ → List ℕ → Type 0) : Type 0 where
  pub first : List ℕ
  pub rest : List ℕ
  pub whole : octets ≡ first ++ rest
  pub item : First first
  pub items : Rest (length first) rest

abbrev mutual
  -- the octets at the offset, which is the tree's, encode it. The constructed bit of a known tag may be any, where DER
  -- has it set for a SEQUENCE and a SET (X.690 8.9.1, 8.11.1) and clear for the rest (10.2). What stands inside a
  -- constructed encoding of another class is one block (8.14), or it stays as it came
  pub Encodes : ℕ → List ℕ → Tree ℕ → Type 0
  Encodes offset octets (leaf o l) = (o ≡ offset) × (constructed : Bool) × (contents : List ℕ) × (header : ℕ)
      × Encoding octets Universal constructed (leaf_tag l) contents header × LeafContents l contents
  Encodes offset octets (group o g bs) =
      (o ≡ offset) × (constructed : Bool) × (contents : List ℕ) × (header : ℕ)
      × Encoding octets Universal constructed (group_tag g) contents header × EncodesAll (offset + header) contents bs
  Encodes offset octets (explicit class o tag b) =
      (o ≡ offset) × (class ≢ Universal) × (contents : List ℕ) × (header : ℕ)
      × Encoding octets class true tag contents header × Encodes (offset + header) contents b
  Encodes offset octets (unknown class constructed o tag contents) = (o ≡ offset) × (header : ℕ)
      × Encoding octets class constructed tag contents header × StaysAsItCame class constructed tag contents

  -- the octets from the offset on encode the trees, one after another
  pub EncodesAll : ℕ → List ℕ → Trees ℕ → Type 0
  EncodesAll offset octets no_trees = octets ≡ []
  EncodesAll offset octets (more_trees b bs) =
      EncodedFirst octets (λ first. Encodes offset first b) (λ size rest. EncodesAll (offset + size) rest bs)

-- the octets are a document: one block or more, with these trees
pub record IsDocument (octets : List ℕ) (bs : Trees ℕ) : Type 0 where
  pub some : 0 < length octets
  pub blocks : EncodesAll 0 octets bs

-- the octets are blocks one after another, and then one at fault; the innermost block at fault begins at the offset. A
-- fault inside another class is none
pub data BlocksFaultAt : List ℕ → DecodeFault → ℕ → Type 0 where
  in_header : {octets : List ℕ} {e : DecodeFault} (front rest : List ℕ) → octets ≡ front ++ rest
      → AreBlocks front → 0 < length rest → HeaderFault (length front) rest e
      → BlocksFaultAt octets e (length front)
  in_contents : {octets contents : List ℕ} {constructed : Bool} {tag header : ℕ} {e : DecodeFault}
      (front x rest : List ℕ) → octets ≡ front ++ (x ++ rest) → AreBlocks front
      → Encoding x Universal constructed tag contents header → LeafFault tag contents e
      → BlocksFaultAt octets e (length front)
  in_item : {octets contents : List ℕ} {constructed : Bool} {header inside : ℕ} {e : DecodeFault}
      (front x rest : List ℕ) → octets ≡ front ++ (x ++ rest) → AreBlocks front
      → (g : GroupKind) → Encoding x Universal constructed (group_tag g) contents header
      → BlocksFaultAt contents e inside → BlocksFaultAt octets e (length front + (header + inside))

-- the first fault of octets that are no document, and its offset; 0 for no octets
abbrev pub FirstFaultAt : List ℕ → DecodeFault → ℕ → Type 0
FirstFaultAt octets e offset =
    ((octets ≡ []) × (e ≡ empty_buffer) × (offset ≡ 0)) ⊎ BlocksFaultAt octets e offset

-- the first fault of octets that are no document, at whatever offset
abbrev pub FirstFault : List ℕ → DecodeFault → Type 0
FirstFault octets e = (offset : ℕ) × FirstFaultAt octets e offset
