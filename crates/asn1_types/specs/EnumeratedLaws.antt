-- No two ENUMERATEDs have the same tree: octets have one number.
use Rattle.std.specs.Prelude.{◌≡◌, ℕ, ℤ, List, false}
use Rattle.std.proofs.Common.{sym, ap, ◌∙◌}
use Rattle.asn1_headers.specs.declared.header.ASN1Class.TheVariants.{Universal}
use Rattle.asn1_headers.specs.declared.tags.TheConstants.{ENUMERATED}
use Rattle.asn1_numbers.specs.TwosComplement.{signed_number, shortest_octets}
use Rattle.asn1_numbers.proofs.SignedNumbers.{signed_number-shortest_octets}
use Rattle.asn1_blocks.specs.Tree.{Tree, unknown}
use Rattle.asn1_types.specs.declared.enumerated.Enumerated.{Enumerated}

abbrev enumerated_tree : List ℕ → Tree (Unit {0})
enumerated_tree contents = unknown Universal false tt ENUMERATED contents

contents-same : (xs ys : List ℕ) → enumerated_tree xs ≡ enumerated_tree ys → xs ≡ ys
contents-same xs ys e = cc

-- numbers of the same shortest octets are equal
pub number-of_octets : (x y : ℤ) → shortest_octets x ≡ shortest_octets y → x ≡ y
number-of_octets x y e =
    sym (signed_number-shortest_octets x) ∙ ap signed_number e ∙ signed_number-shortest_octets y

pub enumerated-distinct : (x y : Enumerated)
    → enumerated_tree (shortest_octets x.number) ≡ enumerated_tree (shortest_octets y.number) → x ≡ y
enumerated-distinct x y e =
    let with_number : ℤ → Enumerated = λ n. record { number = n } in
    ap with_number (number-of_octets x.number y.number
    (contents-same (shortest_octets x.number) (shortest_octets y.number) e))
