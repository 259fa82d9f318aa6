-- For `size::SizeBuilderBuilder::close`: what it returns is right.
use Rattle.std.proofs.lemmas.Result.{on_ok_weaker}
use Rattle.asn1_blocks.specs.Inner.ReaderSteps.{in_frame}
use Rattle.asn1_writing.proofs.Sizes.{HasEndedIn-sizes}
use Rattle.asn1_writing.proofs.size.SizeBuilderBuilder.close.Goals as goal

pub returns : goal.returns
returns c = on_ok_weaker c.add.result
    (HasEndedIn-sizes c.args._octets.now c.args.self.now c.args.self.now (in_frame c.args.extent c.args.items)
    c.args.parent.now c.add.new.self c.args._depth c.contents.result c.requires.within c.contents.ensures.as_it_came
    c.contents.ensures.of_blocks) c.add.ensures
