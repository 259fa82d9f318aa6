-- For `push::push_all`: its loop keeps its invariant and `push_block` may be called.
use Rattle.std.proofs.Common.{take, subst, sym, arith}
use Rattle.asn1_blocks.specs.View.{view}
use Rattle.asn1_writing.specs.Inner.WriteWalk.{all_own_octets, measured_blocks, own_octets}
use Rattle.asn1_writing.proofs.WriteSteps.{all_own_octets-take, own_fault-get_or, length-all_own_octets_le, contents_size_of-get_or}
use Rattle.asn1_writing.proofs.push.push_all.Goals as goal

pub push_block-requires-clause-size : goal.push_block-requires-clause-size
push_block-requires-clause-size g c =
    contents_size_of-get_or c.args.list.now c.loop-m.m-index c.m-item.result c.loop-m-test.true c.m-item.is
    c.requires.sizes

pub push_block-requires-clause-room : goal.push_block-requires-clause-room
push_block-requires-clause-room g c =
    let done = all_own_octets (measured_blocks (take c.loop-m.m-index c.args.list.now)) in
    omega (
      arith,
      c.requires.room,
      length-all_own_octets_le c.args.list.now c.loop-m.m-index c.m-item.result c.loop-m-test.true c.m-item.is,
      g.S.Sink.room_after c.args.out.now c.loop-m.out done c.loop-m.invariant,
    )

pub push_block-requires-clause-writable : goal.push_block-requires-clause-writable
push_block-requires-clause-writable g c =
    own_fault-get_or c.args.list.now c.loop-m.m-index c.m-item.result c.loop-m-test.true c.m-item.is c.requires.writable

pub loop-m-preserved : goal.loop-m-preserved
loop-m-preserved g c =
    let i = c.loop-m.m-index in
    let m = c.m-item.result in
    let done = all_own_octets (measured_blocks (take i c.args.list.now)) in
    subst (λ z. g.S.Sink.pushes c.args.out.now z c.push_block.new.out)
    (sym (all_own_octets-take c.args.list.now i m c.loop-m-test.true c.m-item.is))
    (g.S.Sink.more c.args.out.now c.loop-m.out c.push_block.new.out done (own_octets (view m.block.now))
    c.loop-m.invariant c.push_block.ensures)
