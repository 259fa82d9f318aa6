-- For `lines::push_line`: what it returns is right.
use Rattle.std.proofs.Common.{◌≡◌, ◌++◌, ◌∷◌, [], ap, append_assoc, refl, string_bytes, subst, sym, ◌∙◌}
use Rattle.std.specs.Str.{chars}
use Rattle.der_io.specs.Escaped.{all_escaped, escape_of_other}
use Rattle.dump_text.specs.Shown.{AreLines, line_more}
use Rattle.dump_text.proofs.lines.push_line.Goals as goal

pub returns : goal.returns
returns c = λ before.
    let line = all_escaped escape_of_other (chars c.args.line.now) in
    let pushed : string_bytes c.push_str.new.self ≡ string_bytes c.args.text.now ++ (line ++ 10 ∷ []) =
    c.in_ok-push_str.ensures.bytes
    ∙ (ap (λ z. z ++ 10 ∷ []) c.in_ok-push_shown.ensures
    ∙ append_assoc (string_bytes c.args.text.now) line (10 ∷ []))
    in
    subst AreLines (sym pushed) (line_more before (chars c.args.line.now, refl))
