-- For `components::component_at`: what it returns is right.
use Rattle.std.proofs.Common.{◌≡◌, ◌<◌, ◌≤◌, suc, drop, take, length, refl, sym, subst, arith}
use Rattle.asn1_headers.proofs.HeaderOctets.{IsContinued-take, IsContinued-not_high}
use Rattle.asn1_numbers.specs.Base128.{IsContinued, low_bits_number}
use Rattle.asn1_records.specs.Contents.{component_does_not_end, component_was_found}
use Rattle.asn1_records.proofs.components.component_at.Goals as goal

pub returns-in-Some : goal.returns-in-Some
returns-in-Some c =
    let contents = c.args.contents.now in
    let rest = c.split_at.result.1.now in
    let last = c.in-Some.last in
    let found = c.in-Some.ensures.found in
    let (status, count, offset) = c.all_put.ensures in
    let back : rest ≡ drop c.args.index contents = c.split_at.ensures.back in
    let same : suc last ≡ c.all_put.result.count = omega (arith, count) in
    let continued : IsContinued (take c.all_put.result.count rest) =
    subst (λ k. IsContinued (take k rest)) same (IsContinued-take rest last found.0 found.1 c.in-Some.ensures.before) in
    let few : c.all_put.result.count ≤ length rest = omega (arith, count, found.0) in
    let some : 0 < c.args.index = omega (arith, c.if-index-eq0.false) in
    let own = subst (λ z. IsContinued (take c.all_put.result.count z)) back continued in
    component_was_found some status offset (subst (λ z. c.all_put.result.count ≤ length z) back few)
    (low_bits_number (take c.all_put.result.count (drop c.args.index contents))) record
    { continued = own; value = refl }

pub returns-in-None : goal.returns-in-None
returns-in-None c =
    let rest = c.split_at.result.1.now in
    let o = c.nothing_put-in-None.ensures in
    component_does_not_end
    (λ n k p. IsContinued-not_high rest k c.in-None.ensures.none
    (subst (λ z. IsContinued (take k z)) (sym c.split_at.ensures.back) p.continued)) o.status o.offset o.count
