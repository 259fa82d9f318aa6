-- For `blocks::line_of`: what it returns is right.
use Rattle.std.proofs.Common.{◌≡◌, ◌++◌, ◌∷◌, [], ap, refl, string_bytes, ◌∙◌}
use Rattle.std.specs.Str.{chars}
use Rattle.der_io.specs.Escaped.{all_escaped, escape_of_other}
use Rattle.dump_inputs.proofs.blocks.line_of.Goals as goal

pub returns : goal.returns
returns c =
    let shown = all_escaped escape_of_other (chars c.args.text.now) in
    let pushed : string_bytes c.push_str.new.self ≡ shown ++ 10 ∷ [] =
    c.in_ok-push_str.ensures.bytes
    ∙ ap (λ z. z ++ 10 ∷ []) (c.in_ok-push_shown.ensures ∙ ap (λ z. z ++ shown) c.new-line.ensures.bytes) in
    (shown, (chars c.args.text.now, refl), pushed)
