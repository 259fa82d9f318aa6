-- For `order::may_follow`: what it returns is right.
use Rattle.std.proofs.Common.{ap}
use Rattle.std.specs.Prelude.{option_map}
use Rattle.asn1_der.proofs.Orders.{MayFollow-Some}
use Rattle.asn1_der.proofs.order.may_follow.Goals as goal

pub returns-in-Some : goal.returns-in-Some
returns-in-Some c =
    MayFollow-Some c.args.order (option_map (λ first. first.now) c.args.before) c.in-Some.first.now c.args.next.now
    c.may_stand_before.result
    (ap (option_map (λ first. first.now)) c.in-Some.is) c.may_stand_before.ensures
