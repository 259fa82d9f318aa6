-- For `leaf_size::bit_string_size`: what it returns is right.
use Rattle.std.proofs.Common.{◌≡◌, ◌<◌, ◌+◌, ◌*◌, ◌^◌, ◌∷◌, ◌∙◌, length, refl, ap, sym, subst, arith}
use Rattle.std.proofs.lemmas.Grind.{common_steps}
use Rattle.asn1_leaves.specs.Contents.BitString.{BitStringContents, bit_string_contents}
use Rattle.asn1_writing.proofs.LeafSizes.{length-bit_string_contents}
use Rattle.asn1_writing.proofs.leaf_size.bit_string_size.Goals as goal

pub returns-then-bits-eq0 : goal.returns-then-bits-eq0
returns-then-bits-eq0 c =
    let u = c.in-Some.unused.now in
    let v = c.in-Some.octets.now in
    let n = c.in_ok-bits.bits in
    let e : c.args.contents.now ≡ u ∷ v = grind (arith, common_steps) in
    let bits : n + u ≡ 8 * length v = grind (arith, common_steps) in
    let small : 8 * length v < 2 ^ 64 = grind (arith, common_steps) in
    let none = ap (λ z. length (bit_string_contents z v)) (sym c.if-bits-eq0.true) in
    (n, v, subst (BitStringContents n v) (sym e) (refl, bits, small), none)

pub returns : goal.returns
returns c =
    let u = c.in-Some.unused.now in
    let v = c.in-Some.octets.now in
    let n = c.in_ok-bits.bits in
    let e : c.args.contents.now ≡ u ∷ v = grind (arith, common_steps) in
    let bits : n + u ≡ 8 * length v = grind (arith, common_steps) in
    let small : 8 * length v < 2 ^ 64 = grind (arith, common_steps) in
    let all = ap length e ∙ sym (length-bit_string_contents n v c.if-bits-eq0.false) in
    (n, v, subst (BitStringContents n v) (sym e) (refl, bits, small), all)
