-- How many octets are written of what is read, of which no block is made. Private contracts alone name these.
use Rattle.std.specs.Prelude.{◌≡◌, ◌≢◌, ℕ, ◌+◌, ◌<◌, ◌⊎◌, Bool, true, false, List, [], ◌∷◌, length}
use Rattle.asn1_headers.specs.declared.header.ASN1Class.{ASN1Class}
use Rattle.asn1_headers.specs.declared.header.ASN1Class.TheVariants.{Universal}
use Rattle.asn1_headers.specs.Header.{shortest_identifier, shortest_length}
use Rattle.asn1_blocks.specs.declared.read_loop.OpenFrame.{OpenFrame}
use Rattle.asn1_blocks.specs.Contents.{LeafContents, is_leaf_tag, leaf_contents, leaf_tag}
use Rattle.asn1_blocks.specs.Places.{IsEncodingBetween}
use Rattle.asn1_blocks.specs.Tree.{Leaf, Tree, trees_of}
use Rattle.asn1_writing.specs.Canonical.{all_canonical}
use Rattle.asn1_writing.specs.declared.size.SizeBuilder.{SizeBuilder}
use Rattle.asn1_writing.specs.declared.size.WrittenItems.{WrittenItems}

-- so many are written of contents octets of class Universal with this tag: those of the leaf that they mean, or all
-- octets where the tag is that of none
abbrev pub AreWrittenOfLeaf : ℕ → List ℕ → ℕ → Type 0
AreWrittenOfLeaf tag contents size =
    ((is_leaf_tag tag ≡ false) × (size ≡ length contents))
    ⊎ ((l : Leaf) × (tag ≡ leaf_tag l) × LeafContents l contents × (size ≡ length (leaf_contents l)))

-- the same of contents octets of any class: those of others are written as they came
abbrev pub AreWrittenOf : ASN1Class → ℕ → List ℕ → ℕ → Type 0
AreWrittenOf class tag contents size =
    ((class ≡ Universal) × AreWrittenOfLeaf tag contents size)
    ⊎ ((class ≢ Universal) × (size ≡ length contents))

-- a frame has one block more, of which so many identifier octets and contents octets are written
pub record HasBlockMore (i : WrittenItems) (identifier contents : ℕ) (j : WrittenItems) : Type 0 where
  pub size : j.size ≡ i.size + (identifier + (length (shortest_length contents) + contents))
  pub blocks : j.blocks ≡ i.blocks + 1
  pub same : j.identifier ≡ i.identifier

-- so many identifier octets are written of the encoding around the blocks of the frame, where there is one
abbrev pub KeepsIdentifier : List ℕ → OpenFrame WrittenItems → Type 0
KeepsIdentifier octets f =
    f.extent.offset < f.extent.start → (class : ASN1Class) (constructed : Bool) (tag : ℕ)
    → IsEncodingBetween octets class constructed tag f.extent.offset f.extent.start f.extent.end
    → f.items.identifier ≡ length (shortest_identifier class true tag)

-- the items of the frame count what is written of these trees
pub record AreCounted (octets : List ℕ) (f : OpenFrame WrittenItems) (ts : List (Tree ℕ)) : Type 0 where
  pub size : f.items.size ≡ length (all_canonical (trees_of ts))
  pub blocks : f.items.blocks ≡ length ts
  pub identifier : KeepsIdentifier octets f

-- the items of each frame count its trees
abbrev pub all_counted : List ℕ → List (OpenFrame WrittenItems) → List (List (Tree ℕ)) → Type 0
all_counted octets [] [] = Unit {0}
all_counted octets [] (ts ∷ rest) = ⊥
all_counted octets (f ∷ fs) [] = ⊥
all_counted octets (f ∷ fs) (ts ∷ rest) = AreCounted octets f ts × all_counted octets fs rest

abbrev pub sizes_hold :
    List ℕ → SizeBuilder → List (OpenFrame WrittenItems) → List (List (Tree ℕ)) → Type 0
sizes_hold octets b fs trees = all_counted octets fs trees
