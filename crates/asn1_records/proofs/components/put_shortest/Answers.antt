-- For `components::put_shortest`: what it returns is right.
use Rattle.std.proofs.Common.{subst}
use Rattle.asn1_records.specs.Contents.{mean_components}
use Rattle.asn1_records.specs.Room.{ArePut}
use Rattle.asn1_records.proofs.components.put_shortest.Goals as goal

pub returns-then-are_clearly_shortest : goal.returns-then-are_clearly_shortest
returns-then-are_clearly_shortest c =
    let is = c.if-are_clearly_shortest.true in
    let m = c.are_clearly_shortest.ensures.meant is in
    mean_components m.0 m.1
    (subst (λ z. ArePut z c.args.room.now c.put_front.new.room c.put_front.result)
    (c.are_clearly_shortest.ensures.shortest is m.0 m.1) c.put_front.ensures)
