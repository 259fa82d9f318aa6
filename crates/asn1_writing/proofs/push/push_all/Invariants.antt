-- For `push::push_all`: what each turn of its loop keeps and what grows less, so that it ends.
use Rattle.std.proofs.Common.{take}
use Rattle.asn1_writing.specs.Inner.WriteWalk.{all_own_octets, measured_blocks}
use Rattle.asn1_writing.proofs.push.push_all.Given as goal

-- the octets of the blocks so far were pushed
abbrev pub invariant-loop-m : goal.invariant-loop-m
invariant-loop-m g l = g.S.Sink.pushes l.fn.out (all_own_octets (measured_blocks (take l.m-index l.list))) l.out
