-- For `block_ref::BlockRef::boolean`: what it returns is right.
use Rattle.std.proofs.Common.{true, ap, refl}
use Rattle.asn1_headers.specs.Fault.{fault_of}
use Rattle.asn1_blocks.specs.BlockParts.{tree_boolean}
use Rattle.asn1_blocks.specs.Tree.{boolean}
use Rattle.asn1_blocks.specs.View.{tree_offset}
use Rattle.asn1_blocks.proofs.Leaves.{LeafFault-kind}
use Rattle.asn1_outline.proofs.Values.{IsLeafOf-no_fault, IsLeafOf-leaf, tree_boolean-none}
use Rattle.asn1_outline.proofs.block_ref.BlockRef.boolean.Goals as goal

pub returns-in_default : goal.returns-in_default
returns-in_default c b e = tree_boolean-none b (c.in_default.ensures b e)

pub returns : goal.returns
returns c b e =
    let (p, same) =
    IsLeafOf-leaf (tree_offset b) 1 c.in-Some.contents.now b (boolean c.in-Ok.yes) (c.in-Some.ensures b e)
    refl c.in-Ok.ensures.found in
    ap tree_boolean same

pub returns-in_default-read : goal.returns-in_default-read
returns-in_default-read c b e =
    absurd (IsLeafOf-no_fault (tree_offset b) 1 c.in-Some.contents.now b (fault_of c.in_default-read.field-0)
    (c.in-Some.ensures b e) (LeafFault-kind (boolean true) 1 _ _ refl c.in_default-read.ensures.refused))
