-- For `times::is_day`: what it returns is right.
use Rattle.std.proofs.Common.{◌≡◌, [], ◌++◌, ap, arith, codes, length}
use Rattle.asn1_der.proofs.Elements.{IsWithinMoment-whole, octets_from-to_end}
use Rattle.asn1_der.proofs.times.is_day.Goals as goal

pub returns-in-len8 : goal.returns-in-len8
returns-in-len8 c =
    let octets = c.args.contents.now in
    let size : length octets ≡ 8 = omega (arith, c.in-len8.len_at_least, c.in-len8.len_below) in
    IsWithinMoment-whole c.is_moment.result 8 ([]) octets (codes "000000Z") _ size
    (ap (λ z. [] ++ (z ++ codes "000000Z")) (octets_from-to_end octets 0 8 size)) c.is_moment.ensures
