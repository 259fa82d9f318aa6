-- For `contents::bit_string::push`: what it returns is right.
use Rattle.std.proofs.Common.{arith, ◌≡◌, ◌*◌, ◌-◌, ◌∷◌, [], length, sym, subst}
use Rattle.std.proofs.lemmas.Grind.{common_steps}
use Rattle.asn1_leaves.specs.Contents.BitString.{bit_string_contents}
use Rattle.asn1_leaves.proofs.contents.bit_string.push.Goals as goal

pub returns : goal.returns
returns g c =
    let n = 8 * length c.args.octets.now - c.args.bits in
    let e : bit_string_contents c.args.bits c.args.octets.now ≡ n ∷ c.args.octets.now = grind (arith, common_steps) in
    subst (λ z. g.S.Sink.pushes c.args.out.now z c.push_octets.new.self) (sym e)
    (g.S.Sink.more c.args.out.now c.push_octet.new.self c.push_octets.new.self (n ∷ []) c.args.octets.now
    c.push_octet.ensures c.push_octets.ensures)
