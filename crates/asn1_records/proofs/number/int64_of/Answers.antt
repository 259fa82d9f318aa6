-- For `number::int64_of`: what it returns is right.
use Rattle.std.proofs.Common.{◌≡◌, ◌∙◌, OkIff, FitsSigned, of_z, to_z, sym, subst}
use Rattle.std.specs.Int.{w64, w128}
use Rattle.std.proofs.lemmas.Int.{to_z-of_z}
use Rattle.asn1_numbers.specs.TwosComplement.{signed_number}
use Rattle.asn1_records.proofs.PathSteps.{FitsSigned-wider, fitting-converted, fitting-none}
use Rattle.asn1_records.proofs.number.int64_of.Goals as goal

pub returns-in-Some : goal.returns-in-Some
returns-in-Some c =
    let z = signed_number c.args.contents.now in
    let n = c.in-Some.n in
    let (fits, is) = c.in-Some.ensures in
    let same : to_z w128 (of_z w128 n) ≡ z = to_z-of_z w128 n (subst (FitsSigned w128) (sym is) fits) ∙ is in
    c.ok.ensures.value
    ∙ fitting-converted c.try_from.result z
    (subst (λ m. OkIff c.try_from.result (FitsSigned w64 m) m) same c.try_from.ensures)

pub returns-in-None : goal.returns-in-None
returns-in-None c =
    let z = signed_number c.args.contents.now in
    fitting-none z (λ fits. c.in-None.ensures (FitsSigned-wider z fits))
