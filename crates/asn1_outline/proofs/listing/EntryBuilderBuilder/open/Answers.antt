-- For `listing::EntryBuilderBuilder::open`: what it returns is right.
use Rattle.std.proofs.Common.{refl}
use Rattle.asn1_outline.proofs.Listed.{HasOpened-entry_builder}
use Rattle.asn1_outline.proofs.listing.EntryBuilderBuilder.open.Goals as goal

pub returns : goal.returns
returns c =
    HasOpened-entry_builder c.args.octets.now c.args.header.now c.args.offset c.args.depth c.args.self.now
    c.add.new.self
    (record { entry = c.count-entry.result; count = 0 }) c.encoding_entry-block.result c.encoding_entry-block.ensures
    c.count-entry.ensures.count refl c.in_ok-add.ensures
