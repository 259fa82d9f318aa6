-- For `block_ref::BlockRef::oid`: what it returns is right, and memory is the only error.
use Rattle.std.proofs.Common.{[], inl, inr, ap, refl}
use Rattle.asn1_headers.specs.Fault.{fault_of}
use Rattle.asn1_blocks.specs.BlockParts.{tree_oid}
use Rattle.asn1_blocks.specs.Tree.{object_identifier}
use Rattle.asn1_blocks.specs.View.{tree_offset}
use Rattle.asn1_blocks.proofs.Leaves.{LeafFault-kind}
use Rattle.asn1_outline.proofs.BlockRefs.{never-entry}
use Rattle.asn1_outline.proofs.Values.{IsLeafOf-no_fault, IsLeafOf-leaf, tree_oid-none}
use Rattle.asn1_outline.proofs.block_ref.BlockRef.oid.Goals as goal

pub returns-in_default : goal.returns-in_default
returns-in_default c b e = tree_oid-none b (c.in_default.ensures b e)

pub returns-in-Ok : goal.returns-in-Ok
returns-in-Ok c b e =
    let (p, same) = IsLeafOf-leaf (tree_offset b) 6 c.in-Some.contents.now b (object_identifier c.in-Ok.oid)
    (c.in-Some.ensures b e) refl c.in-Ok.ensures.found in
    ap tree_oid same

pub out_of_memory-requires : goal.out_of_memory-requires
out_of_memory-requires c = elim c.in-Err.ensures.refused [
  | inl memory ↦ memory
  | inr fault ↦
      absurd (never-entry c.args.self.now.octets.now c.args.self.now.entry c.args.self.now.tree (λ b e.
      IsLeafOf-no_fault (tree_offset b) 6 c.in-Some.contents.now b (fault_of c.in-Err.fault) (c.in-Some.ensures b e)
      (LeafFault-kind (object_identifier []) 6 _ _ refl fault)))
]
