-- For `alone::short_universal_at`: what it returns is right.
use Rattle.std.proofs.Common.{◌<◌, ◌%◌, drop, get_or, refl, sym, ◌∙◌, arith}
use Rattle.asn1_records.proofs.ShortHeaders.{UniversalAt-short, BeginsWithTwo-short}
use Rattle.asn1_records.proofs.alone.short_universal_at.Goals as goal

pub returns-in-len2-up : goal.returns-in-len2-up
returns-in-len2-up c =
    let x = c.args.octets.now in
    let rest = c.split_at.result.1.now in
    let v = c.split_at-in-len2-up.result.0.now in
    let b = get_or rest 0 0 in
    let n = get_or rest 1 0 in
    let parts = BeginsWithTwo-short rest v c.in-len2-up.len_at_least c.if-length-behind.true
    c.split_at-in-len2-up.ensures.front in
    let low : b % 32 < 31 = omega (arith, c.if-leading-ne31.true) in (
      b % 32,
      UniversalAt-short x c.args.offset b n v (drop n (drop 2 rest)) (sym c.split_at.ensures.back ∙ parts.whole) low
          c.if-length-lt128.true parts.size
          c.if-leading-lt64.true,
      (
        (λ small. refl),
        (λ great. absurd (omega (arith, great, low))),
      ),
    )
