-- For `listing::list`: what it returns is right (`none`), and `take_turn` may be called.
use Rattle.std.proofs.Common.{◌≡◌, ◌<◌, ◌^◌, arith, false, length, reverse, subst}
use Rattle.asn1_der.specs.Listing.{HasListed}
use Rattle.asn1_der.proofs.DerLists.{Lists-nil_iff_der}
use Rattle.asn1_der.proofs.Walk.{AreExtents-le}
use Rattle.asn1_der.proofs.listing.list.Goals as goal

pub take_turn-requires-clause-within : goal.take_turn-requires-clause-within
take_turn-requires-clause-within c =
    let w = c.turns.place in
    AreExtents-le c.args.octets.now w.inner.end w.inner.listed (reverse w.outer.items) c.turns.invariant.placed.around

pub returns-then-not-branch-clause-none : goal.returns-then-not-branch-clause-none
returns-then-not-branch-clause-none c =
    let x = c.args.octets.now in
    let found = c.take_turn.new.found.items in
    let small : length x < 2 ^ 64 = omega arith in
    let is_empty : c.is_empty.result ≡ false = c.if-is_empty.false in
    let some : 0 < length x = grind (arith, is_empty, c.is_empty.ensures) in
    let last : c.in_ok-take_turn.field-0 ≡ false = c.if-not-branch.true in
    Lists-nil_iff_der x found some small (c.turns.invariant.all found
    (subst (λ b. HasListed x b c.turns.place c.take_turn.new.place c.turns.found.items found) last
    c.in_ok-take_turn.ensures.turned))
