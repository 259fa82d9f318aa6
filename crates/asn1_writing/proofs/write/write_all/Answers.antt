-- For `write::write_all`: what it returns is right (`encoded`) and `push_all` may be called.
use Rattle.std.proofs.Common.{◌++◌, length, ap, ◌∙◌, arith}
use Rattle.asn1_writing.specs.Inner.WriteWalk.{all_own_octets, first_own_fault, measured_blocks}
use Rattle.asn1_writing.proofs.WriteSteps.{first_own_fault-in_order, all_own_octets-in_order}
use Rattle.asn1_writing.proofs.write.write_all.Goals as goal

pub push_all-requires-clause-room : goal.push_all-requires-clause-room
push_all-requires-clause-room c =
    let e = ap (λ z. all_own_octets (measured_blocks z)) c.deref.ensures.value ∙
    all_own_octets-in_order (measured_blocks c.in_ok-list.list.items) c.args.blocks.now c.in_ok-list.ensures.ordered in
    omega (arith, ap length e, c.in_ok-list.ensures.size, c.in_ok-octets.ensures.len, c.in_ok-octets.ensures.capacity)

pub push_all-requires-clause-writable : goal.push_all-requires-clause-writable
push_all-requires-clause-writable c =
    ap (λ z. first_own_fault (measured_blocks z)) c.deref.ensures.value
    ∙ (first_own_fault-in_order (measured_blocks c.in_ok-list.list.items) c.args.blocks.now c.in_ok-list.ensures.ordered
    ∙ c.in_ok-list.ensures.writable)

pub returns-clause-encoded : goal.returns-clause-encoded
returns-clause-encoded c =
    let e = ap (λ z. all_own_octets (measured_blocks z)) c.deref.ensures.value ∙
    all_own_octets-in_order (measured_blocks c.in_ok-list.list.items) c.args.blocks.now c.in_ok-list.ensures.ordered in
    c.push_all.ensures.0 ∙ (ap (λ z. z ++ all_own_octets (measured_blocks c.deref.result.now))
    c.in_ok-octets.ensures.items ∙ e)
