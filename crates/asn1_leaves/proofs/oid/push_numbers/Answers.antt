-- For `oid::push_numbers`: its loop keeps its invariant, what it returns is right (`refused`), and no index is out of
-- bounds.
use Rattle.std.proofs.Common.{arith, ◌++◌, inl, inr, drop, ap, sym, subst, ◌∙◌, length-drop}
use Rattle.std.proofs.lemmas.Result.{err_from_is_err_and}
use Rattle.asn1_numbers.specs.FittingNumbers.{HasNotAll}
use Rattle.asn1_leaves.specs.Inner.IdentifierForms.{numbers_after}
use Rattle.asn1_leaves.proofs.PushedNumbers.{HasNotAll-among, numbers_after-drop, ArePushed-more}
use Rattle.asn1_leaves.proofs.Subidentifiers.{Subidentifiers-incomplete}
use Rattle.asn1_leaves.proofs.oid.push_numbers.Goals as goal

pub returns-in_err-number-clause-refused : goal.returns-in_err-number-clause-refused
returns-in_err-number-clause-refused g c =
    let p = err_from_is_err_and c.from_residual.result c.from_residual.ensures.1 in
    let i = c.loop-index.index in
    let rest = drop i c.args.octets.now in
    rw (p.1, p.2) (elim c.in_err-number.ensures.refused [
      | inl memory ↦ inl memory
      | inr missing ↦ let none =
          (Subidentifiers-incomplete rest _ (omega (arith, length-drop i c.args.octets.now, c.loop-index-test.true))
          missing).1 in
          absurd (c.loop-index.invariant.2 none c.requires.0 c.requires.1)
    ])

pub returns-in_err-push_number-clause-refused : goal.returns-in_err-push_number-clause-refused
returns-in_err-push_number-clause-refused g c =
    let p = err_from_is_err_and c.from_residual-in_err-push_number.result
    c.from_residual-in_err-push_number.ensures.1 in
    let octets = c.args.octets.now in
    let j = c.decode_base127.new.index in
    let has = g.T.FromBigUint.has in
    let (_, (done, are_all, _), _) = c.loop-index.invariant in
    let next = numbers_after-drop octets c.loop-index.index j c.in_ok-number.number c.in_ok-number.ensures.moved.0
    c.in_ok-number.ensures.found in
    let all = ap (λ z. done ++ z) (sym next) ∙ are_all in
    rw (p.1, p.2) (elim c.in_err-push_number.ensures.refused [
      | inl memory ↦ inl memory
      | inr missing ↦ inr (
        missing.0,
        subst (HasNotAll has) all
            (HasNotAll-among has done (numbers_after 0 (drop j octets)) c.in_ok-number.number missing.1),
      )
    ])

pub loop-index-preserved-in_ok-push_number : goal.loop-index-preserved-in_ok-push_number
loop-index-preserved-in_ok-push_number g c =
    ArePushed-more g.T.FromBigUint.has g.T.FromBigUint.is_number c.args.numbers.now.items c.loop-index.numbers.items
    c.push_number.new.numbers.items
    c.args.octets.now c.loop-index.index c.decode_base127.new.index c.in_ok-number.number c.in_ok-number.ensures.moved.0
    c.in_ok-number.ensures.moved.1 c.in_ok-number.ensures.found c.loop-index.invariant
    c.in_ok-push_number.ensures.pushed

pub loop-index-preserved : goal.loop-index-preserved
loop-index-preserved g c =
    ArePushed-more g.T.FromBigUint.has g.T.FromBigUint.is_number c.args.numbers.now.items c.loop-index.numbers.items
    c.push_number.new.numbers.items
    c.args.octets.now c.loop-index.index c.decode_base127.new.index c.in_ok-number.number c.in_ok-number.ensures.moved.0
    c.in_ok-number.ensures.moved.1 c.in_ok-number.ensures.found c.loop-index.invariant
    c.in_ok-push_number.ensures.pushed
