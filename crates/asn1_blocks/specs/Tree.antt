-- Trees of blocks, and the tree of an `ASN1Block`: what it means, without where it lies in memory. O is what stands at
-- each block beside its meaning: its offset, or nothing.
use Rattle.std.specs.Prelude.{ℕ, ℤ, Bool, List, [], ◌∷◌, map, string_bytes}
use Rattle.std.specs.Str.{chars}
use Rattle.asn1_headers.specs.declared.header.ASN1Class.{ASN1Class}
use Rattle.asn1_headers.specs.declared.header.ASN1Class.TheVariants.{Universal}
use Rattle.asn1_blocks.specs.declared.block.GroupKind.{GroupKind}
use Rattle.asn1_blocks.specs.declared.block.GroupKind.TheVariants.{Sequence, Set}
use Rattle.asn1_blocks.specs.declared.block.ASN1Block.{ASN1Block, fold-ASN1Block}
use Rattle.asn1_blocks.specs.declared.block.ASN1Block.TheOpen.{ASN1Block-F}
use Rattle.asn1_blocks.specs.declared.document.Document.{Document}
use Rattle.asn1_leaves.specs.Contents.Moment.{Moment, moment_of}
use Rattle.asn1_leaves.specs.StringKind.{StringKind, utf8, printable, teletex, ia5, universal, bmp}

-- a block without blocks inside, of class Universal
pub data Leaf : Type 0 where
  boolean : Bool → Leaf
  integer : ℤ → Leaf
  -- the number of bits, and the octets that hold them
  bit_string : ℕ → List ℕ → Leaf
  octet_string : List ℕ → Leaf
  null : Leaf
  -- the components
  object_identifier : List ℕ → Leaf
  -- the characters, as Unicode scalar values
  text : StringKind → List ℕ → Leaf
  utc_time : Moment → Leaf
  generalized_time : Moment → Leaf
  deriving Discrete as Leaf-discrete

mutual
  pub data Tree (O : Type 0) : Type 0 where
    leaf : O → Leaf → Tree O
    -- a SEQUENCE or SET
    group : O → GroupKind → Trees O → Tree O
    -- a block of another class around one block
    explicit : ASN1Class → O → ℕ → Tree O → Tree O
    -- class, constructed bit, tag number and contents octets as they came
    unknown : ASN1Class → Bool → O → ℕ → List ℕ → Tree O

  pub data Trees (O : Type 0) : Type 0 where
    no_trees : Trees O
    more_trees : Tree O → Trees O → Trees O

abbrev pub trees_of : {O : Type 0} → List (Tree O) → Trees O
trees_of [] = no_trees
trees_of (b ∷ bs) = more_trees b (trees_of bs)

abbrev mutual
  -- the tree with each offset and each leaf changed
  pub mapped : {O P : Type 0} → (O → P) → (Leaf → Leaf) → Tree O → Tree P
  mapped f h (leaf o l) = leaf (f o) (h l)
  mapped f h (group o g bs) = group (f o) g (all_mapped f h bs)
  mapped f h (explicit class o tag b) = explicit class (f o) tag (mapped f h b)
  mapped f h (unknown class constructed o tag contents) = unknown class constructed (f o) tag contents

  pub all_mapped : {O P : Type 0} → (O → P) → (Leaf → Leaf) → Trees O → Trees P
  all_mapped f h no_trees = no_trees
  all_mapped f h (more_trees b bs) = more_trees (mapped f h b) (all_mapped f h bs)

-- the tree without its offsets
abbrev pub shape : {O : Type 0} → Tree O → Tree (Unit {0})
shape b = mapped (λ o. tt) (λ l. l) b

abbrev pub shapes : {O : Type 0} → Trees O → Trees (Unit {0})
shapes bs = all_mapped (λ o. tt) (λ l. l) bs

-- one block, with each block inside already seen as its tree
abbrev pub view_step : ASN1Block-F (Tree ℕ) → Tree ℕ
view_step (ASN1Block-F.Boolean o b) = leaf o (boolean b)
view_step (ASN1Block-F.Integer o n) = leaf o (integer n)
view_step (ASN1Block-F.BitString o n v) = leaf o (bit_string n v.items)
view_step (ASN1Block-F.OctetString o v) = leaf o (octet_string v.items)
view_step (ASN1Block-F.Null o) = leaf o null
view_step (ASN1Block-F.ObjectIdentifier o i) = leaf o (object_identifier i)
view_step (ASN1Block-F.UTF8String o s) = leaf o (text utf8 (chars (string_bytes s)))
view_step (ASN1Block-F.PrintableString o s) = leaf o (text printable (chars (string_bytes s)))
view_step (ASN1Block-F.TeletexString o s) = leaf o (text teletex (chars (string_bytes s)))
view_step (ASN1Block-F.IA5String o s) = leaf o (text ia5 (chars (string_bytes s)))
view_step (ASN1Block-F.UniversalString o s) = leaf o (text universal (chars (string_bytes s)))
view_step (ASN1Block-F.BMPString o s) = leaf o (text bmp (chars (string_bytes s)))
view_step (ASN1Block-F.UTCTime o d) = leaf o (utc_time (moment_of d))
view_step (ASN1Block-F.GeneralizedTime o d) = leaf o (generalized_time (moment_of d))
view_step (ASN1Block-F.Sequence o v) = group o Sequence (trees_of v.items)
view_step (ASN1Block-F.Set o v) = group o Set (trees_of v.items)
view_step (ASN1Block-F.Explicit class o tag b) = explicit class o tag b.value
view_step (ASN1Block-F.Unknown class constructed o tag contents) = unknown class constructed o tag contents.items

abbrev pub view : ASN1Block → Tree ℕ
view = fold-ASN1Block (Tree ℕ) view_step

abbrev pub views : List ASN1Block → Trees ℕ
views bs = trees_of (map view bs)

-- the trees of what a `Document` owns
abbrev pub document_trees : Document → Trees ℕ
document_trees document = views document.blocks

-- the class of a block
abbrev pub tree_class : {O : Type 0} → Tree O → ASN1Class
tree_class (leaf o l) = Universal
tree_class (group o g bs) = Universal
tree_class (explicit class o tag b) = class
tree_class (unknown class constructed o tag contents) = class

-- what stands at a block: its offset
abbrev pub tree_offset : {O : Type 0} → Tree O → O
tree_offset (leaf o l) = o
tree_offset (group o g bs) = o
tree_offset (explicit class o tag b) = o
tree_offset (unknown class constructed o tag contents) = o
