-- For `strict::are_canonical`: what it returns is right (`are`) and `push_all` may be called.
use Rattle.std.proofs.Common.{◌≡◌, ◌∙◌, length, ap, refl, sym, true, arith}
use Rattle.asn1_writing.specs.Canonical.{all_canonical}
use Rattle.asn1_numbers.specs.declared.sink.Comparison.{Comparison}
use Rattle.asn1_blocks.specs.View.{views}
use Rattle.asn1_writing.specs.Inner.WriteWalk.{all_own_octets, first_own_fault, measured_blocks}
use Rattle.asn1_writing.proofs.WriteSteps.{first_own_fault-in_order, all_own_octets-in_order}
use Rattle.asn1_numbers.specs.Inner.Comparisons.{compared_all}
use Rattle.asn1_writing.proofs.strict.are_canonical.Goals as goal

pub push_all-requires-clause-room : goal.push_all-requires-clause-room
push_all-requires-clause-room c =
    let e = ap (λ z. all_own_octets (measured_blocks z)) c.deref.ensures.value ∙
    all_own_octets-in_order (measured_blocks c.in-Ok.measured.0.items) c.args.blocks.now c.in-Ok.ensures.ordered in
    omega (arith, ap length e, c.in-Ok.ensures.size, c.if-size-octets.false)

pub push_all-requires-clause-writable : goal.push_all-requires-clause-writable
push_all-requires-clause-writable c =
    ap (λ z. first_own_fault (measured_blocks z)) c.deref.ensures.value
    ∙ (first_own_fault-in_order (measured_blocks c.in-Ok.measured.0.items) c.args.blocks.now c.in-Ok.ensures.ordered
    ∙ c.in-Ok.ensures.writable)

pub returns-clause-are : goal.returns-clause-are
returns-clause-are c =
    let e : all_own_octets (measured_blocks c.deref.result.now) ≡ all_canonical (views c.args.blocks.now) =
    ap (λ z. all_own_octets (measured_blocks z)) c.deref.ensures.value ∙
    all_own_octets-in_order (measured_blocks c.in-Ok.measured.0.items) c.args.blocks.now c.in-Ok.ensures.ordered in
    let whole : Comparison = record { rest = c.args.octets; same = true } in
    let w = compared_all whole c.push_all.new.out _ c.push_all.ensures refl
    (omega (arith, ap length e, c.in-Ok.ensures.size, c.if-size-octets.false)) in
    (λ h. w.0 h ∙ e, λ h. w.1 (h ∙ sym e))
