-- For `times::is_whole_minute`: what it returns is right.
use Rattle.std.proofs.Common.{◌≡◌, [], ◌++◌, ap, arith, codes, length}
use Rattle.asn1_der.proofs.Elements.{IsWithinMoment-whole, octets_from-to_end}
use Rattle.asn1_der.proofs.times.is_whole_minute.Goals as goal

pub returns-in-len12 : goal.returns-in-len12
returns-in-len12 c =
    let octets = c.args.octets.now in
    let size : length octets ≡ 12 = omega (arith, c.in-len12.len_at_least, c.in-len12.len_below) in
    IsWithinMoment-whole c.is_moment.result 12 ([]) octets (codes "59Z") _ size
    (ap (λ z. [] ++ (z ++ codes "59Z")) (octets_from-to_end octets 0 12 size)) c.is_moment.ensures
