-- For `listing::EntryBuilderBuilder::close`: what it returns is right.
use Rattle.std.proofs.Common.{subst, sym}
use Rattle.std.proofs.lemmas.Result.{on_ok_weaker}
use Rattle.asn1_blocks.specs.Inner.ReaderSteps.{HasEndedIn, in_frame}
use Rattle.asn1_outline.specs.Listing.{entries_hold}
use Rattle.asn1_outline.proofs.Listed.{HasEndedIn-entry_builder}
use Rattle.asn1_outline.proofs.listing.EntryBuilderBuilder.close.Goals as goal

pub returns : goal.returns
returns c =
    let x = c.args._octets.now in
    let f = in_frame c.args._extent c.args.items in
    let a = c.args.self.now in
    let b = c.set_items.new.self in
    let i = c.args.parent.now in
    on_ok_weaker c.add.result
    (λ u. subst (λ z. HasEndedIn entries_hold x f c.args._depth a i b z) (sym u)
    (HasEndedIn-entry_builder x a b f i c.args._depth c.set_items.ensures)) c.add.ensures
