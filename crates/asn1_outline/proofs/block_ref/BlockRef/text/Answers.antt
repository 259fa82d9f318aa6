-- For `block_ref::BlockRef::text`: what it returns is right, and memory is the only error.
use Rattle.std.proofs.Common.{inl, inr, string_bytes, subst}
use Rattle.std.specs.Str.{chars}
use Rattle.asn1_headers.specs.Fault.{fault_of}
use Rattle.asn1_leaves.specs.Contents.Text.{TextContents, TextFault, text_form}
use Rattle.asn1_outline.proofs.BlockRefs.{never-entry}
use Rattle.asn1_outline.proofs.Values.{IsEntryOf-no_text_fault, tree_text-not_string, tree_text-entry}
use Rattle.asn1_outline.proofs.block_ref.BlockRef.text.Goals as goal

pub returns-in_default : goal.returns-in_default
returns-in_default c b e =
    tree_text-not_string c.args.self.now.octets.now b c.args.self.now.entry e c.in_default.ensures

pub returns-in-Ok : goal.returns-in-Ok
returns-in-Ok c b e =
    let o = c.args.self.now in
    let (class, kind, tag, form) = c.in-Some.ensures in
    let cs = chars (string_bytes c.in-Ok.text) in
    let own = subst (λ z. TextContents z cs c.contents.result.now) form c.in-Ok.ensures.found in
    tree_text-entry o.octets.now b o.entry kind cs e class tag
    (subst (TextContents (text_form kind) cs) c.contents.ensures.octets own)

pub out_of_memory-requires : goal.out_of_memory-requires
out_of_memory-requires c =
    let o = c.args.self.now in
    let (class, kind, tag, form) = c.in-Some.ensures in
    let f = fault_of c.in-Err.fault in
    elim c.in-Err.ensures.refused [
      | inl memory ↦ memory
      | inr fault ↦
          let own = subst (λ z. TextFault z c.contents.result.now f) form fault in
          absurd (never-entry o.octets.now o.entry o.tree (λ b e.
          IsEntryOf-no_text_fault o.octets.now b o.entry kind f e class tag
          (subst (λ z. TextFault (text_form kind) z f) c.contents.ensures.octets own)))
    ]
