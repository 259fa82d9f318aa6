-- For `block_ref::BlockRef::integer`: what it returns is right.
use Rattle.std.proofs.Common.{ap, refl}
use Rattle.asn1_blocks.specs.BlockParts.{tree_integer}
use Rattle.asn1_blocks.specs.Tree.{integer}
use Rattle.asn1_blocks.specs.View.{tree_offset}
use Rattle.asn1_outline.proofs.Values.{IsLeafOf-leaf, tree_integer-none}
use Rattle.asn1_outline.proofs.block_ref.BlockRef.integer.Goals as goal

pub returns-in_default : goal.returns-in_default
returns-in_default c b e = tree_integer-none b (c.in_default.ensures b e)

pub returns-in-Ok : goal.returns-in-Ok
returns-in-Ok c b e =
    let (p, same) = IsLeafOf-leaf (tree_offset b) 2 c.in-Some.contents.now b (integer c.in-Ok.n)
    (c.in-Some.ensures b e) refl c.in-Ok.ensures.found in
    ap tree_integer same
