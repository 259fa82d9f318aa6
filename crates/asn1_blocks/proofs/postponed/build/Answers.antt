-- For `postponed::build`: its loop keeps its invariant.
use Rattle.std.proofs.Common.{[], ap, sym, ◌∙◌}
use Rattle.asn1_blocks.specs.Inner.Postponed.{trees_after}
use Rattle.asn1_blocks.proofs.PostponedBlocks.{trees_after_all-append_last}
use Rattle.asn1_blocks.proofs.postponed.build.Goals as goal

pub loop-one-preserved : goal.loop-one-preserved
loop-one-preserved c =
    c.in_ok-build.ensures ∙ (ap (trees_after c.args.octets.now c.in-Some.one) c.loop-one.invariant ∙ sym
    (trees_after_all-append_last c.args.octets.now c.loop-one.yielded c.in-Some.one []))
