-- For `contents::is_utf8`: what it returns is right.
use Rattle.std.proofs.Common.{sym}
use Rattle.std.proofs.lemmas.Str.{IsUtf8-from_is_utf8, is_utf8-from_IsUtf8}
use Rattle.std.specs.Str.{is_utf8}
use Rattle.std.proofs.lemmas.Bool.{false_from_ne_true}
use Rattle.asn1_der.proofs.contents.is_utf8.Goals as goal

pub returns-in-Ok : goal.returns-in-Ok
returns-in-Ok c = sym (is_utf8-from_IsUtf8 c.args.contents.now c.in-Ok.ensures.cases.1)

pub returns-in-Err : goal.returns-in-Err
returns-in-Err c =
    let contents = c.args.contents.now in
    sym (false_from_ne_true (is_utf8 contents) (λ e. c.in-Err.ensures.cases.0 (IsUtf8-from_is_utf8 contents e)))
