-- For `read::read_blocks`: `read_into` may be called.
use Rattle.std.proofs.Common.{None, length, refl}
use Rattle.asn1_blocks.specs.declared.read_loop.FrameKind.TheVariants.{Whole}
use Rattle.asn1_blocks.proofs.TreeBuilding.Ending.{AllHold-empty}
use Rattle.asn1_blocks.proofs.read.read_blocks.Goals as goal

pub read_into-requires-clause-empty : goal.read_into-requires-clause-empty
read_into-requires-clause-empty c =
    AllHold-empty c.args.i.now (record { kind = Whole; offset = 0; start = 0; end = length c.args.i.now })
    (record { postponed = c.new.result; outermost = None })
    c.in-Ok.items c.new.ensures.items c.in-Ok.ensures.before c.in-Ok.ensures.count c.in-Ok.ensures.first refl
