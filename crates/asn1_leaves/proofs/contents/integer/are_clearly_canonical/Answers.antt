-- For `contents::integer::are_clearly_canonical`: what it returns is right.
use Rattle.std.proofs.Common.{◌≡◌, ◌≢◌, ◌+◌, ◌<◌, ℕ, List, [], ◌∷◌, true, get_or, length, sym, ap, ◌∙◌, arith}
use Rattle.std.proofs.lemmas.Bool.{false≢true}
use Rattle.std.proofs.lemmas.Bool.Decides.{nat_tests}
use Rattle.asn1_numbers.specs.TwosComplement.{shortest_octets}
use Rattle.asn1_numbers.proofs.SignedNumbers.{IsShortestSigned-drop, sign_before}
use Rattle.asn1_leaves.specs.Contents.Integer.{is_shortest_integer}
use Rattle.asn1_leaves.proofs.contents.integer.are_clearly_canonical.Goals as goal

-- of shortest contents octets the first is needed: it is not the sign of the second
is_shortest_integer-needed : (contents : List ℕ) → is_shortest_integer contents ≡ true →
    (0 < length contents)
    × (0 + 1 < length contents → get_or contents 0 0 ≢ sign_before (get_or contents (0 + 1) 0))
is_shortest_integer-needed [] is_true = absurd (false≢true is_true)
is_shortest_integer-needed (a ∷ []) is_true = (omega arith, λ more. absurd (omega (arith, more)))
is_shortest_integer-needed (a ∷ b ∷ octets) is_true = (omega arith, λ more e. grind (arith, nat_tests, e, is_true))

pub returns : goal.returns
returns c is_true n p =
    let contents = c.args.contents.now in
    let needed = is_shortest_integer-needed contents (sym c.is_shortest_integer.ensures ∙ is_true) in
    IsShortestSigned-drop contents 0 needed.0 (λ k. omega (arith, c.type_inv.contents k)) needed.1
    ∙ ap shortest_octets (sym p)
