-- For `oid::push_number`: what it returns is right (`pushed`).
use Rattle.std.proofs.Common.{◌∷◌, [], ◌++◌, sym, subst}
use Rattle.asn1_numbers.specs.FittingNumbers.{AreNumbers}
use Rattle.asn1_leaves.proofs.PushedNumbers.{AreNumbers-push}
use Rattle.asn1_leaves.proofs.oid.push_number.Goals as goal

pub returns-clause-pushed : goal.returns-clause-pushed
returns-clause-pushed g c ns p =
    let has = g.T.FromBigUint.has in
    let is_number = g.T.FromBigUint.is_number in
    let n = c.args.number.now in
    let more =
    AreNumbers-push has is_number c.args.numbers.now.items c.in-Some.x ns n p c.in-Some.ensures.0 c.in-Some.ensures.1 in
    subst (λ xs. AreNumbers has is_number xs (ns ++ n ∷ [])) (sym c.in_ok-push-in-Some.ensures.items) more
