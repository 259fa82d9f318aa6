-- What is written of a block itself, beside what the blocks that it holds write.
use Rattle.std.specs.Prelude.{ℕ, true, false, List, [], Option, None}
use Rattle.asn1_headers.specs.declared.header.ASN1Class.TheVariants.{Universal}
use Rattle.asn1_headers.specs.declared.error.ASN1EncodeErr.{ASN1EncodeErr}
use Rattle.asn1_headers.specs.Header.{leading_octet}
use Rattle.asn1_blocks.specs.Contents.{group_tag, leaf_contents, leaf_tag, leaf_write_fault}
use Rattle.asn1_blocks.specs.Tree.{Tree, leaf, group, explicit, unknown}

-- the one identifier octet of a block whose tag has a rule
abbrev pub known_octet : {O : Type 0} → Tree O → ℕ
known_octet (leaf o l) = leading_octet Universal false (leaf_tag l)
known_octet (group o g bs) = leading_octet Universal true (group_tag g)
known_octet (explicit class o tag b) = 0
known_octet (unknown class constructed o tag contents) = 0

-- the contents octets that are not those of blocks inside
abbrev pub own_contents : {O : Type 0} → Tree O → List ℕ
own_contents (leaf o l) = leaf_contents l
own_contents (group o g bs) = []
own_contents (explicit class o tag b) = []
own_contents (unknown class constructed o tag contents) = contents

-- why a block can't be written, whatever it holds
abbrev pub own_fault : {O : Type 0} → Tree O → Option ASN1EncodeErr
own_fault (leaf o l) = leaf_write_fault l
own_fault (group o g bs) = None
own_fault (explicit class o tag b) = None
own_fault (unknown class constructed o tag contents) = None
