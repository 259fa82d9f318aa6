-- For the cycle `same` of `block::same`: what each turn of its loop keeps and what grows less, so that it ends.
use Rattle.std.proofs.Common.{◌↔◌, ◌+◌, ◌*◌, ◌≤◌, take}
use Rattle.asn1_blocks.specs.HeadersBegun.{all_blocks_in}
use Rattle.asn1_blocks.specs.View.{views}
use Rattle.asn1_blocks.proofs.SameSteps.{AreSame}
use Rattle.asn1_blocks.proofs.block.same.+same.Given as goal

abbrev pub decreases-same_all : goal.decreases-same_all
decreases-same_all l = 2 * all_blocks_in (views l.a.now)

abbrev pub decreases-same_each : goal.decreases-same_each
decreases-same_each l = 2 * all_blocks_in (views l.a.now) + 1

-- the lists that are left are the same exactly if the whole ones are, and hold no more blocks
abbrev pub invariant-same_all-loop-x : goal.invariant-same_all-loop-x
invariant-same_all-loop-x l = record {
  same : AreSame l.v l.w ↔ AreSame l.fn.a l.fn.b;
  fewer : all_blocks_in (views l.v) ≤ all_blocks_in (views l.fn.a);
}

abbrev pub decreases-same_all-loop-x : goal.decreases-same_all-loop-x
decreases-same_all-loop-x l = all_blocks_in (views l.v)

abbrev pub invariant-same_each-loop-i : goal.invariant-same_each-loop-i
invariant-same_each-loop-i l = AreSame (take l.i l.a) (take l.i l.b)
