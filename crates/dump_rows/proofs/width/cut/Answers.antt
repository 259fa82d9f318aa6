-- For `width::cut`: what it returns is right.
use Rattle.std.proofs.Common.{◌≡◌, ◌∙◌, ◌≤◌, ◌<◌, [], false, ap, arith, refl}
use Rattle.std.proofs.lemmas.Grind.{common_steps}
use Rattle.std.proofs.lemmas.Str.{chars-IsAscii}
use Rattle.unicode_width.proofs.Rules.{str_width-printable}
use Rattle.unicode_width.specs.Width.{str_width}
use Rattle.dump_rows.specs.Parts.{text_of}
use Rattle.dump_rows.specs.Printing.{columns_of}
use Rattle.dump_rows.proofs.width.cut.Goals as goal

columns_of-nil : columns_of [] ≡ 0
columns_of-nil = ap (str_width false) (chars-IsAscii [] (λ i. omega arith)) ∙ str_width-printable false [] refl

pub returns : goal.returns
returns c =
    let none : columns_of (text_of c.new.result.items) ≡ 0 =
    ap (λ z. columns_of (text_of z)) c.new.ensures.items ∙ columns_of-nil in
    let wide : c.args.most < columns_of (text_of c.args.texts.now) = grind (arith, common_steps) in
    let empty : columns_of (text_of c.new.result.items) ≤ c.args.most = grind (arith, none) in
    (empty, λ fits. grind (arith, wide, fits))
