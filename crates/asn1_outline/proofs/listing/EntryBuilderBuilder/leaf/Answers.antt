-- For `listing::EntryBuilderBuilder::leaf`: what it returns is right (`built`, `refused`).
use Rattle.std.proofs.Common.{◌-◌, inl, inr, refl, subst, sym}
use Rattle.std.proofs.lemmas.Result.{err_from_is_err_and}
use Rattle.std.specs.List.{slice_range}
use Rattle.asn1_blocks.specs.Inner.ReaderSteps.{HasLeaf}
use Rattle.asn1_outline.specs.Listing.{entries_hold}
use Rattle.asn1_outline.proofs.Listed.{HasLeaf-entry_builder}
use Rattle.asn1_outline.proofs.listing.EntryBuilderBuilder.leaf.Goals as goal

pub returns-clause-built : goal.returns-clause-built
returns-clause-built c =
    let x = c.args.octets.now in
    let h = c.args.header in
    let o = c.args.offset in
    let a = c.args.self.now in
    let b = c.add.new.self in
    let i = c.args.items.now in
    let (limit, found, within) = c.requires.found in
    let single = c.in_ok-check_contents.ensures.encoded o (slice_range x o h.end) (h.start - o) found.encoding in
    let built = HasLeaf-entry_builder x h o limit c.args.depth a b i c.encoding_entry-block.result c.count-entry.result
    found
    c.requires.leaf single c.encoding_entry-block.ensures c.count-entry.ensures.count c.in_ok-add.ensures in
    subst (λ z. HasLeaf entries_hold x o h.end c.args.depth a i b z) (sym c.in_ok-add-2.ensures) built

pub returns-in_err-check_contents-clause-refused : goal.returns-in_err-check_contents-clause-refused
returns-in_err-check_contents-clause-refused c =
    let p = err_from_is_err_and c.from_residual.result c.from_residual.ensures.1 in
    rw (p.1, p.2) (elim c.in_err-check_contents.ensures.refused [
      | inl memory ↦ inl memory
      | inr fault ↦ inr (record { builder = refl; items = refl; class = fault.0; fault = fault.1 })
    ])
