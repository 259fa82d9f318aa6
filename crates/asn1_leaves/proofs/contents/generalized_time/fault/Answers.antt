-- For `contents::generalized_time::fault`: what it returns is right.
use Rattle.std.proofs.Common.{◌≡◌, true, false, arith, ap, ◌∙◌}
use Rattle.std.specs.Char.{is_ascii}
use Rattle.std.specs.List.{list_all}
use Rattle.std.proofs.lemmas.Grind.{common_steps}
use Rattle.asn1_headers.specs.Fault.{invalid_date_value}
use Rattle.asn1_leaves.proofs.Characters.{utf8_failure-fault}
use Rattle.asn1_leaves.proofs.Leaves.GeneralizedTime.{utf8_fault-not_utf8, invalid_date_value-not_ascii, invalid_date_value-ascii}
use Rattle.asn1_leaves.proofs.contents.generalized_time.fault.Goals as goal

pub returns-in-Err : goal.returns-in-Err
returns-in-Err c =
    let e = c.in-Err.ensures in
    utf8_failure-fault c.args.contents.now _ _ e.valid_len e.fault
    ∙ utf8_fault-not_utf8 c.args.contents.now c.if-contents-lt15.false e.cases.0

pub returns-then-not-are_ascii : goal.returns-then-not-are_ascii
returns-then-not-are_ascii c =
    let a : list_all is_ascii c.args.contents.now ≡ false = grind (arith, common_steps) in
    ap invalid_date_value (c.in_ok-from_str.ensures.ok ∙ c.in-Ok.ensures.cases.0)
    ∙ invalid_date_value-not_ascii c.args.contents.now c.if-contents-lt15.false c.in-Ok.ensures.cases.1 a

pub returns : goal.returns
returns c =
    let a : list_all is_ascii c.args.contents.now ≡ true = grind (arith, common_steps) in
    ap invalid_date_value c.in_ok-longer_form.ensures
    ∙ invalid_date_value-ascii c.args.contents.now c.if-contents-lt15.false c.in-Ok.ensures.cases.1 a
