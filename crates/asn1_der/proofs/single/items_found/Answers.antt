-- For `single::items_found`: what it returns is right.
use Rattle.std.proofs.Common.{◌≡◌, sym, ◌∙◌, refl}
use Rattle.std.specs.Prelude.{None}
use Rattle.asn1_der.specs.Departures.{AreEncodings, Found}
use Rattle.asn1_der.specs.declared.rule.Rule.TheVariants.{NotEncodings}
use Rattle.asn1_der.proofs.Found.{MatchBool-by_false, MatchBool-by_true}
use Rattle.asn1_der.proofs.single.items_found.Goals as goal

pub returns-then-is_looked_into : goal.returns-then-is_looked_into
returns-then-is_looked_into c =
    MatchBool-by_true _ _ _ (sym c.is_looked_into.ensures ∙ c.if-is_looked_into.true) c.encodings_found.ensures

pub returns-else-is_looked_into : goal.returns-else-is_looked_into
returns-else-is_looked_into c =
    MatchBool-by_false _ (Found (AreEncodings 0 c.args.contents.now) NotEncodings None) (None ≡ None)
    (sym c.is_looked_into.ensures ∙ c.if-is_looked_into.false) refl
