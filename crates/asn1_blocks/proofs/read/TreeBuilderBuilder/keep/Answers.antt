-- For `read::TreeBuilderBuilder::keep`: what it returns is right.
use Rattle.asn1_blocks.specs.Inner.ReaderSteps.{in_frame}
use Rattle.asn1_blocks.proofs.TreeBuilding.Ending.{HasKept-as_it_came}
use Rattle.asn1_blocks.proofs.read.TreeBuilderBuilder.keep.Goals as goal
use Rattle.std.proofs.lemmas.Result.{on_ok_weaker}

pub returns : goal.returns
returns c =
    on_ok_weaker c.push_as_it_came.result
    (HasKept-as_it_came c.args.octets.now c.args.self.now c.push_as_it_came.new.self c.args.parent.now
    c.push_as_it_came.new.items (in_frame c.args.extent c.args.items) c.args.depth
    (record { postponed = c.truncate.new.self; outermost = c.leave-inside.new.outermost }) c.truncate.ensures.items
    c.requires.after) c.push_as_it_came.ensures
