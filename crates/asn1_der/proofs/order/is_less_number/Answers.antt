-- For `order::is_less_number`: what it returns is right.
use Rattle.asn1_der.proofs.Tags.{nat_cmp-by_octets, is_less_number-Less, is_less_number-not_Less}
use Rattle.asn1_der.proofs.order.is_less_number.Goals as goal

pub returns-in-Less : goal.returns-in-Less
returns-in-Less c m n first next =
    is_less_number-Less m n c.then-order.result
    (nat_cmp-by_octets m n c.args.first.now c.args.next.now c.cmp.result c.cmp-2.result c.then-order.result first next
    c.cmp.ensures c.cmp-2.ensures
    c.then-order.ensures) c.in-Less.is

pub returns-in_default : goal.returns-in_default
returns-in_default c m n first next =
    is_less_number-not_Less m n c.then-order.result
    (nat_cmp-by_octets m n c.args.first.now c.args.next.now c.cmp.result c.cmp-2.result c.then-order.result first next
    c.cmp.ensures c.cmp-2.ensures
    c.then-order.ensures) c.in_default.not-Less
