-- For `size::SizeBuilderBuilder::open`: what it returns is right.
use Rattle.std.proofs.Common.{refl}
use Rattle.asn1_writing.specs.declared.size.WrittenItems.{WrittenItems}
use Rattle.asn1_writing.proofs.Sizes.{HasOpened-sizes}
use Rattle.asn1_writing.proofs.size.SizeBuilderBuilder.open.Goals as goal

pub returns : goal.returns
returns c =
    let (limit, found, within) = c.requires.found in
    let items : WrittenItems = record { size = 0; blocks = 0; identifier = c.identifier_size.result } in
    HasOpened-sizes c.args._octets.now c.args.header.now c.args._offset c.args._depth limit c.args.self.now
    c.args.self.now items refl refl c.identifier_size.ensures found
