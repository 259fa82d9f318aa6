-- Which contents octets have the first two components in one octet, for `identifier::components_of`.
use Rattle.std.proofs.Common.{◌≡◌, ℕ, ◌+◌, ◌*◌, ◌≤◌, List, [], ◌∷◌, ap, arith, get_or, sym, ◌∙◌}
use Rattle.asn1_leaves.specs.Contents.ObjectIdentifier.{ObjectIdentifierContents}
use Rattle.dump_values.specs.Values.{HasShortFront}

-- where the first octet is 128 or more, the first two components do not stand in one octet
pub HasShortFront-none :
    (components contents : List ℕ) (octet : ℕ) (rest : List ℕ) → ObjectIdentifierContents components contents →
    contents ≡ octet ∷ rest → 128 ≤ octet → HasShortFront components → ⊥
HasShortFront-none [] contents octet rest is e long short = absurd is
HasShortFront-none (x ∷ []) contents octet rest is e long short = absurd is
HasShortFront-none (x ∷ y ∷ ns) contents octet rest (b, more, same, (sum, few, small), others) e long
    (first, later, f, less) =
    let p : b ≡ octet = ap (λ z. get_or z 0 0) (sym same ∙ e) in
    let q : 40 * x + y ≡ first = ap (λ z. get_or z 0 0) f in
    omega (arith, p, q, sum, long, less)
