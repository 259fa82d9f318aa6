-- For `order::is_in_order`: what it returns is right.
use Rattle.std.proofs.Common.{◌≡◌, ◌<◌, ◌^◌, arith, false, inl, inr, length}
use Rattle.asn1_der.proofs.Orders.{AreItems-der}
use Rattle.asn1_der.proofs.order.is_in_order.Goals as goal

pub returns-then-ascend : goal.returns-then-ascend
returns-then-ascend c items ds =
    let x = c.args.contents.now in
    let small : length x < 2 ^ 64 = omega arith in
    let a = AreItems-der x items small ds in
    let tags = c.ascend.ensures items a.all a.whole in
    (λ t. inl (tags.0 c.if-ascend.true), λ o. c.if-ascend.true)

pub returns-else-ascend : goal.returns-else-ascend
returns-else-ascend c items ds =
    let x = c.args.contents.now in
    let small : length x < 2 ^ 64 = omega arith in
    let a = AreItems-der x items small ds in
    let tags = c.ascend.ensures items a.all a.whole in
    let octets = c.ascend-else-ascend.ensures items a.all a.whole in (
      λ t. inr (octets.0 t),
      λ o. elim o [
        | inl ascend ↦ let is = tags.1 ascend in
            let not : c.ascend.result ≡ false = c.if-ascend.false in
            absurd cc
        | inr ascend ↦ octets.1 ascend
      ],
    )
