-- For `header::tag_at`: what it returns is right (`refused`).
use Rattle.std.proofs.Common.{arith, ◌≡◌, ◌∷◌, subst, sym, inl, inr}
use Rattle.std.proofs.lemmas.Grind.{common_steps}
use Rattle.std.proofs.lemmas.Result.{err_from_is_err_and}
use Rattle.asn1_headers.specs.Header.{BeginsWithNo, IsSomeIdentifier}
use Rattle.asn1_headers.proofs.HeaderOctets.{BeginsWithNo-long_identifier}
use Rattle.asn1_headers.proofs.header.tag_at.Goals as goal

pub returns-in_err-n-2-clause-refused : goal.returns-in_err-n-2-clause-refused
returns-in_err-n-2-clause-refused c =
    let p = err_from_is_err_and c.from_residual-in_err-n-2.result c.from_residual-in_err-n-2.ensures.1 in
    let e : c.args.octets.now ≡ c.in-Some.first.now ∷ c.in-Some.rest.now = grind (arith, common_steps) in
    rw (p.1, p.2) (elim c.in_err-n-2.ensures.refused [
      | inl memory ↦ inl memory
      | inr missing ↦ inr (
        missing.0,
        subst (BeginsWithNo IsSomeIdentifier) (sym e)
            (BeginsWithNo-long_identifier c.in-Some.first.now c.in-Some.rest.now c.if-low-ne31.false missing.1),
      )
    ])
