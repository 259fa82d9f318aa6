-- For `contents::generalized_time::fraction`: what it returns is right (`none`).
use Rattle.std.proofs.Common.{◌≡◌, ◌++◌, [], ◌∷◌, arith, sym, ap, ◌∙◌}
use Rattle.std.specs.Char.{is_ascii_digit}
use Rattle.std.specs.List.{list_all}
use Rattle.std.proofs.lemmas.Grind.{common_steps}
use Rattle.std.proofs.lemmas.Bool.{false≢true}
use Rattle.asn1_leaves.proofs.Leaves.Digits.{IsEnd-digits, IfNone-map}
use Rattle.asn1_leaves.proofs.contents.generalized_time.fraction.Goals as goal

pub returns-clause-none : goal.returns-clause-none
returns-clause-none c = IfNone-map c.nanoseconds.result c.nanoseconds.ensures.none (λ no f t.
    let e : c.args.end.now ≡ c.in_ok-last.front.now ++ 90 ∷ [] = grind (arith, common_steps) in
    let d = IsEnd-digits c.args.end.now c.in_ok-last.front.now c.after_point.result.now f e c.after_point.ensures t in
    false≢true (sym no ∙ ap (list_all is_ascii_digit) d ∙ t.0))
