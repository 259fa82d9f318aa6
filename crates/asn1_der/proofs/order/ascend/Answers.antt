-- For `order::ascend`: its loop keeps its invariant and what it returns is right.
use Rattle.std.proofs.Common.{◌≡◌, refl, false}
use Rattle.std.specs.Prelude.{option_map}
use Rattle.asn1_der.proofs.Orders.{All-behind, IsLeft-next, Ascend-not_may_follow, Ascend-none_left}
use Rattle.asn1_der.proofs.order.ascend.Goals as goal

pub loop-encoding-preserved : goal.loop-encoding-preserved
loop-encoding-preserved c items all whole =
    let order = c.args.order in
    let before = option_map (λ b. b.now) c.loop-encoding.before in
    let rest = c.loop-encoding.encoding-iterator.rest.now in
    let part = c.in-Some.encoding.now in
    let (is, split) = c.in-Some.ensures.steps in
    let left = c.loop-encoding.invariant items all whole in
    let may =
    (c.may_follow.ensures (All-behind order items before rest part left is)).0 c.if-not-may_follow.false in
    IsLeft-next order items before rest part c.next.new.self.rest.now left is split may

pub returns-then-not-may_follow : goal.returns-then-not-may_follow
returns-then-not-may_follow c items all whole = (
  λ t. absurd cc,
  λ ascend.
      let order = c.args.order in
      let before = option_map (λ b. b.now) c.loop-encoding.before in
      let rest = c.loop-encoding.encoding-iterator.rest.now in
      let part = c.in-Some.encoding.now in
      let (is, split) = c.in-Some.ensures.steps in
      let left = c.loop-encoding.invariant items all whole in
      let no : c.may_follow.result ≡ false = c.if-not-may_follow.true in
      let may = c.may_follow.ensures (All-behind order items before rest part left is) in
      absurd (Ascend-not_may_follow order items before rest part c.next.new.self.rest.now left is split
      (λ m. let is = may.1 m in absurd cc) ascend),
)

pub returns : goal.returns
returns c items all whole = (
  λ t. Ascend-none_left c.args.order items (option_map (λ b. b.now) c.loop-encoding.before)
      c.loop-encoding.encoding-iterator.rest.now (c.loop-encoding.invariant items all whole) c.in-None.ensures.steps.0,
  λ ascend. refl,
)
