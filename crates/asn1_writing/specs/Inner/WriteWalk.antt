-- What a block writes itself, beside what those that it holds write. Private contracts alone name these.
use Rattle.std.specs.Prelude.{ℕ, ◌++◌, true, false, List, [], ◌∷◌, length, map, Option, None}
use Rattle.asn1_headers.specs.declared.header.ASN1Class.TheVariants.{Universal}
use Rattle.asn1_headers.specs.declared.error.ASN1EncodeErr.{ASN1EncodeErr}
use Rattle.asn1_blocks.specs.declared.block.ASN1Block.{ASN1Block}
use Rattle.asn1_writing.specs.declared.measure.Measured.{Measured}
use Rattle.asn1_blocks.specs.Tree.{Tree, leaf, group, explicit, unknown}
use Rattle.asn1_blocks.specs.Inner.OwnContents.{own_contents, own_fault}
use Rattle.asn1_headers.specs.Header.{shortest_identifier, shortest_length}
use Rattle.asn1_blocks.specs.Contents.{group_tag, leaf_contents, leaf_tag}
use Rattle.asn1_writing.specs.Canonical.{canonical, all_canonical, first_of}
use Rattle.asn1_blocks.specs.View.{view}

-- the identifier octets that are written of a tree
abbrev pub identifier_of : {O : Type 0} → Tree O → List ℕ
identifier_of (leaf o l) = shortest_identifier Universal false (leaf_tag l)
identifier_of (group o g bs) = shortest_identifier Universal true (group_tag g)
identifier_of (explicit class o tag b) = shortest_identifier class true tag
identifier_of (unknown class constructed o tag contents) = shortest_identifier class constructed tag

-- the contents octets that are written of a tree
abbrev pub contents_of : {O : Type 0} → Tree O → List ℕ
contents_of (leaf o l) = leaf_contents l
contents_of (group o g bs) = all_canonical bs
contents_of (explicit class o tag b) = canonical b
contents_of (unknown class constructed o tag contents) = contents

-- the octets of a block before those of the blocks inside
abbrev pub own_octets : {O : Type 0} → Tree O → List ℕ
own_octets b = identifier_of b ++ (shortest_length (length (contents_of b)) ++ own_contents b)

abbrev pub all_own_octets : List ASN1Block → List ℕ
all_own_octets [] = []
all_own_octets (b ∷ order) = own_octets (view b) ++ all_own_octets order

abbrev pub first_own_fault : List ASN1Block → Option ASN1EncodeErr
first_own_fault [] = None
first_own_fault (b ∷ order) = first_of (own_fault (view b)) (first_own_fault order)

-- the blocks of the list of the first walk, and the sizes that stand beside them
abbrev pub measured_blocks : List Measured → List ASN1Block
measured_blocks list = map (λ m. m.block.now) list

abbrev pub measured_sizes : List Measured → List ℕ
measured_sizes list = map (λ m. m.contents) list

abbrev pub own_size_of : ASN1Block → ℕ
own_size_of b = length (own_contents (view b))

abbrev pub contents_size_of : ASN1Block → ℕ
contents_size_of b = length (contents_of (view b))
