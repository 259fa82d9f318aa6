-- For `own::universal_found`: what it returns is right.
use Rattle.std.proofs.Common.{sym}
use Rattle.std.specs.Prelude.{None, Some}
use Rattle.asn1_headers.specs.declared.header.ASN1Class.TheVariants.{Universal}
use Rattle.asn1_der.specs.Der.{IsRightAlone}
use Rattle.asn1_der.specs.Departures.{Found, kept}
use Rattle.asn1_der.proofs.Found.{Found-failed, MatchBool-by_false}
use Rattle.asn1_der.proofs.own.universal_found.Goals as goal

pub returns-then-right : goal.returns-then-right
returns-then-right c =
    MatchBool-by_false c.args.indefinite _
    (Found (IsRightAlone Universal c.args.constructed c.args.tag c.args.contents.now) _ None)
    c.if-indefinite.false (kept (c.in_ok-right.ensures.0 c.if-right.true))

pub returns : goal.returns
returns c =
    let Asked = IsRightAlone Universal c.args.constructed c.args.tag c.args.contents.now in
    MatchBool-by_false c.args.indefinite _ (Found Asked _ (Some c.type_rule.result)) c.if-indefinite.false
    (Found-failed c.in_ok-right.right Asked _ c.type_rule.result (sym c.type_rule.ensures) c.in_ok-right.ensures
    c.if-right.false)
