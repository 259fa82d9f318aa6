-- For `moment::fraction_digits`: what it returns is right.
use Rattle.std.proofs.Common.{◌∙◌, sym, subst}
use Rattle.std.specs.Prelude.{IsUtf8}
use Rattle.dump_values.proofs.Strings.{IsUtf8-digits}
use Rattle.dump_values.proofs.moment.fraction_digits.Goals as goal

pub returns-in-Ok : goal.returns-in-Ok
returns-in-Ok c = λ m time. c.in-Ok.ensures.cases.0 ∙ c.fraction_octets.ensures m time

pub returns-in-Err : goal.returns-in-Err
returns-in-Err c = λ m time.
    absurd (c.in-Err.ensures.cases.0
    (subst IsUtf8 (sym (c.fraction_octets.ensures m time)) (IsUtf8-digits time.digits time.is_end.0)))
