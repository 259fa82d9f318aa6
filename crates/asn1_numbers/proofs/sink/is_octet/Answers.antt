-- For `sink::is_octet`: what it returns is right.
use Rattle.std.proofs.Common.{◌≡◌, ◌==◌, ◌∷◌, ◌↔◌, [], ℕ, List, length, slice_index, arith}
use Rattle.std.specs.Prelude.{IsTrue}
use Rattle.std.proofs.lemmas.Bool.Decides.{Decides-eqb}
use Rattle.asn1_numbers.proofs.sink.is_octet.Goals as goal

-- where there is one octet, the test for an octet is true exactly if the list is the octet alone
one_octet : (xs : List ℕ) (octet : ℕ) → length xs ≡ 1 → IsTrue (slice_index xs 0 == octet) ↔ (xs ≡ octet ∷ [])
one_octet [] octet h = absurd (omega (arith, h))
one_octet (a ∷ []) octet h =
    let d = Decides-eqb a octet in
    (λ e. let f = d.0 e in cc, λ e. let f : a ≡ octet = cc in d.1 f)
one_octet (a ∷ b ∷ xs) octet h = absurd (omega (arith, h))

pub returns : goal.returns
returns c = one_octet c.args.one.now c.args.octet c.requires
