-- For `block_ref::BlockRef::moment`: what it returns is right, and memory is the only error.
use Rattle.std.proofs.Common.{◌≡◌, inl, inr, arith}
use Rattle.std.proofs.lemmas.Grind.{common_steps}
use Rattle.asn1_headers.specs.Fault.{fault_of}
use Rattle.asn1_headers.specs.declared.header.ASN1Class.TheVariants.{Universal}
use Rattle.asn1_leaves.specs.Contents.Moment.{moment_of}
use Rattle.asn1_outline.proofs.BlockRefs.{never-entry}
use Rattle.asn1_outline.proofs.Values.{IsEntryOf-no_time_fault, tree_moment-found}
use Rattle.asn1_outline.proofs.block_ref.BlockRef.moment.Goals as goal

pub returns-in-Ok : goal.returns-in-Ok
returns-in-Ok c b e =
    let o = c.args.self.now in
    let universal : o.entry.class ≡ Universal = grind (arith, common_steps) in
    tree_moment-found moment_of c.in-Ok.found o.octets.now b o.entry c.contents.result.now e universal
    c.contents.ensures.octets c.in-Ok.ensures.found

pub out_of_memory-requires : goal.out_of_memory-requires
out_of_memory-requires c =
    let o = c.args.self.now in
    let universal : o.entry.class ≡ Universal = grind (arith, common_steps) in
    elim c.in-Err.ensures.refused [
      | inl memory ↦ memory
      | inr fault ↦
          absurd (never-entry o.octets.now o.entry o.tree (λ b e.
          IsEntryOf-no_time_fault o.octets.now b o.entry c.contents.result.now (fault_of c.in-Err.fault) e universal
          c.contents.ensures.octets fault))
    ]
