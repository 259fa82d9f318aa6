-- For `contents::generalized_time::push`: what it returns is right.
use Rattle.std.proofs.Common.{◌++◌, [], ◌∷◌, ap, subst}
use Rattle.asn1_leaves.specs.Contents.Moment.{moment_of}
use Rattle.asn1_leaves.specs.Contents.GeneralizedTime.{to_second, written_fraction}
use Rattle.asn1_leaves.proofs.contents.generalized_time.push.Goals as goal

pub returns : goal.returns
returns g c =
    let m = moment_of c.args.d.now in
    let f = written_fraction m.nanosecond in
    let p = subst (λ z. g.S.Sink.pushes c.args.out.now z c.push_octets.new.self) c.second_octets.ensures
    c.push_octets.ensures in
    let q = subst (λ z. g.S.Sink.pushes c.push_octets.new.self z c.push_fraction.new.out)
    (ap written_fraction c.nanosecond.ensures) c.push_fraction.ensures in
    g.S.Sink.more c.args.out.now c.push_octets.new.self c.push_octet.new.self (to_second m) (f ++ (90 ∷ [])) p
    (g.S.Sink.more c.push_octets.new.self c.push_fraction.new.out c.push_octet.new.self f (90 ∷ []) q
    c.push_octet.ensures)
