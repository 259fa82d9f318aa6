-- For `listing::EntryBuilderBuilder::keep`: what it returns is right.
use Rattle.std.proofs.Common.{subst, sym}
use Rattle.std.proofs.lemmas.Result.{on_ok_weaker}
use Rattle.asn1_blocks.specs.Inner.ReaderSteps.{HasKept, in_frame}
use Rattle.asn1_outline.specs.Listing.{entries_hold}
use Rattle.asn1_outline.proofs.Listed.{HasKept-entry_builder}
use Rattle.asn1_outline.proofs.listing.EntryBuilderBuilder.keep.Goals as goal

pub returns : goal.returns
returns c =
    let x = c.args._octets.now in
    let f = in_frame c.args._extent c.args.items in
    let a = c.args.self.now in
    let b = c.cut.new.self in
    let i = c.args.parent.now in
    on_ok_weaker c.add.result
    (λ u. subst (λ z. HasKept entries_hold x f c.args._depth a i b z) (sym u)
    (HasKept-entry_builder x a b f i c.args._depth c.cut.ensures)) c.add.ensures
