-- For `contents::bit_string::are_clearly_meant`: what it returns is right.
use Rattle.std.proofs.Common.{◌≡◌, ◌-◌, ◌*◌, ◌<◌, ◌≤◌, ◌^◌, [], ◌∷◌, length, refl, subst, sym, arith}
use Rattle.std.proofs.lemmas.Grind.{common_steps}
use Rattle.asn1_leaves.specs.Contents.BitString.{BitStringContents}
use Rattle.asn1_leaves.proofs.contents.bit_string.are_clearly_meant.Goals as goal

pub returns-in_default : goal.returns-in_default
returns-in_default c is_true =
    let e : c.args.contents.now ≡ [] = grind (arith, common_steps) in
    (0, [], subst (BitStringContents 0 []) (sym e) (refl, refl))

pub returns-in-Some-checked_mul : goal.returns-in-Some-checked_mul
returns-in-Some-checked_mul c is_true =
    let u = c.in-Some.unused.now in
    let v = c.in-Some.octets.now in
    let e : c.args.contents.now ≡ u ∷ v = grind (arith, common_steps) in
    let enough : u ≤ 8 * length v = grind (arith, common_steps, is_true) in
    let fits : 8 * length v < 2 ^ 64 = grind (arith, common_steps) in
    (8 * length v - u, v, subst (BitStringContents (8 * length v - u) v) (sym e) (refl, omega (arith, enough), fits))
