-- For `own::is_right`: what it returns is right.
use Rattle.std.proofs.Common.{subst, sym}
use Rattle.std.specs.Prelude.{◌↔◌, IfOk, IsTrue}
use Rattle.asn1_headers.specs.declared.header.ASN1Class.TheVariants.{Universal}
use Rattle.asn1_der.specs.Der.{IsRightAlone}
use Rattle.asn1_der.proofs.own.is_right.Goals as goal

pub returns : goal.returns
returns c =
    let x = c.args.contents.now in
    subst (λ k. IfOk c.is_right_constructed.result (λ found. IsTrue found ↔ IsRightAlone Universal k c.args.tag x))
    (sym c.if-not-constructed.false) c.is_right_constructed.ensures
