-- For `faithful::first_failure`: what each turn of its loop keeps.
use Rattle.std.proofs.Common.{take}
use Rattle.std.specs.Prelude.{All}
use Rattle.asn1_blocks.specs.Inner.FaithfulWalk.{IsFaithfulAlone}
use Rattle.asn1_writing.proofs.Failures.{views_of}
use Rattle.asn1_writing.proofs.faithful.first_failure.Given as goal

-- the blocks so far are faithful alone
abbrev pub invariant-loop-index : goal.invariant-loop-index
invariant-loop-index l = All IsFaithfulAlone (take l.index (views_of l.block-items))
