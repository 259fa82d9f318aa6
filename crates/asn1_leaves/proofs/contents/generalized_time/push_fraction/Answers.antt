-- For `contents::generalized_time::push_fraction`: what it returns is right.
use Rattle.std.proofs.Common.{◌≡◌, ◌∷◌, [], arith, sym, subst}
use Rattle.std.proofs.lemmas.Grind.{common_steps}
use Rattle.asn1_leaves.specs.Contents.GeneralizedTime.{fraction_digits, tenth, written_fraction}
use Rattle.asn1_leaves.proofs.contents.generalized_time.push_fraction.Goals as goal

pub returns : goal.returns
returns g c =
    let n = c.args.nanosecond in
    let e : written_fraction n ≡ 46 ∷ fraction_digits 9 tenth n = grind (arith, common_steps) in
    let p : g.S.Sink.pushes c.push_octet.new.self (fraction_digits 9 tenth n) c.push_octets.new.self =
    grind (arith, common_steps, c.push_octets.ensures, c.fraction_octets-count.ensures.digits) in
    subst (λ z. g.S.Sink.pushes c.args.out.now z c.push_octets.new.self) (sym e)
    (g.S.Sink.more c.args.out.now c.push_octet.new.self c.push_octets.new.self (46 ∷ []) (fraction_digits 9 tenth n)
    c.push_octet.ensures p)
