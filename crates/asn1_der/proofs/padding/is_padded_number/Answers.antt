-- For `padding::is_padded_number`: what it returns is right.
use Rattle.std.proofs.Common.{◌≡◌, ℕ, ◌==◌, nat_lt, List, [], ◌∷◌, not, inl, inr, refl, ap, ◌∙◌, arith}
use Rattle.std.proofs.lemmas.Bool.{cases_Bool}
use Rattle.std.proofs.Math.Bool.{not-not}
use Rattle.asn1_leaves.specs.Contents.Integer.{is_shortest_integer}
use Rattle.asn1_der.specs.Padding.{is_padded_number}
use Rattle.asn1_der.proofs.padding.is_padded_number.Goals as goal

-- contents octets are padded exactly if they are not the shortest of an INTEGER
is_padded_number-not_shortest : (octets : List ℕ) → not (is_shortest_integer octets) ≡ is_padded_number octets
is_padded_number-not_shortest [] = refl
is_padded_number-not_shortest (first ∷ []) = refl
is_padded_number-not_shortest (first ∷ next ∷ more) = elim (cases_Bool (nat_lt next 128)) [
  | inl below ↦ grind (arith, below, not-not (first == 0))
  | inr above ↦ grind (arith, above, not-not (first == 255))
]

pub returns : goal.returns
returns c = ap not c.is_shortest_integer.ensures ∙ is_padded_number-not_shortest c.args.contents.now
