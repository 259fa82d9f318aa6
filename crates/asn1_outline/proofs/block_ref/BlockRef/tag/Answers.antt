-- For `block_ref::BlockRef::tag`: what it returns is right, and memory is the only error.
use Rattle.std.proofs.Common.{inl, inr}
use Rattle.asn1_outline.proofs.BlockRefs.{never-entry}
use Rattle.asn1_outline.proofs.Values.{tree_tag-identifier, IsEntryOf-has_identifier}
use Rattle.asn1_outline.proofs.block_ref.BlockRef.tag.Goals as goal

pub returns-in-Ok : goal.returns-in-Ok
returns-in-Ok c b e =
    let o = c.args.self.now in
    tree_tag-identifier o.octets.now b o.entry c.decode_tag.new.index c.in-Ok.field-0-2 c.in-Ok.field-0-1
    c.in-Ok.tag e c.in-Ok.ensures.found

pub out_of_memory-requires : goal.out_of_memory-requires
out_of_memory-requires c =
    let o = c.args.self.now in
    elim c.in-Err.ensures.refused [
      | inl memory ↦ memory
      | inr fault ↦
          absurd (never-entry o.octets.now o.entry o.tree (λ b e.
          IsEntryOf-has_identifier o.octets.now b o.entry e fault.1))
    ]
