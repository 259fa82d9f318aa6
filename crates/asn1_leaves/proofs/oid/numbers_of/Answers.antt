-- For `oid::numbers_of`: what it returns is right (`refused`).
use Rattle.std.proofs.Common.{inl, inr}
use Rattle.std.proofs.lemmas.Result.{err_from_is_err_and}
use Rattle.asn1_numbers.proofs.FittingNumbers.{HasNotAll-missing_item}
use Rattle.asn1_leaves.proofs.oid.numbers_of.Goals as goal

pub returns-in_err-push_number-clause-refused : goal.returns-in_err-push_number-clause-refused
returns-in_err-push_number-clause-refused g c =
    let p = err_from_is_err_and c.from_residual-in_err-push_number.result
    c.from_residual-in_err-push_number.ensures.1 in
    let i = c.loop-component.component-index in
    rw (p.1, p.2) (elim c.in_err-push_number.ensures.refused [
      | inl memory ↦ inl memory
      | inr missing ↦ inr (
        missing.0,
        HasNotAll-missing_item g.T.FromBigUint.has c.args.components.now i c.component-item.result
            c.loop-component-test.true
            c.component-item.is missing.1,
      )
    ])
