-- For `printer::Printer::push`: what it returns is right.
use Rattle.std.proofs.Common.{◌∙◌, ◌≤◌, Some, subst, sym}
use Rattle.std.proofs.lemmas.Result.{on_ok_weaker}
use Rattle.dump_rows.proofs.Printed.{IsPrinted-line}
use Rattle.dump_rows.specs.Parts.{text_of}
use Rattle.dump_rows.specs.Printing.{IsShownIn, columns_of}
use Rattle.dump_rows.specs.Rows.{IsRowLine}
use Rattle.dump_rows.specs.Texts.{line_of}
use Rattle.dump_rows.proofs.printer.Printer.push.Goals as goal

pub returns-in_ok-texts-in-None : goal.returns-in_ok-texts-in-None
returns-in_ok-texts-in-None g c =
    let line = line_of c.in_ok-texts-in-None.texts in
    let shown = text_of c.parts.result in
    on_ok_weaker c.write_line.result
    (IsPrinted-line g.W.Write.contents (IsRowLine c.args.row.now) c.args.self.now c.write_line.new.self line shown
    c.in_ok-texts-in-None.ensures
    (subst (λ z. IsShownIn z line shown) (sym c.in-None.is) c.parts.ensures)) c.write_line.ensures

pub returns-in_ok-shown-in-Some : goal.returns-in_ok-shown-in-Some
returns-in_ok-shown-in-Some g c =
    let most = c.in-Some.most in
    let shown = text_of c.deref.result.now in
    let (line, is, turn) = c.in_ok-texts-in-Some.ensures in
    let (narrow, keep) = c.in_ok-shown-in-Some.ensures in
    let fitting : IsShownIn (Some most) line (text_of c.in_ok-shown-in-Some.shown.items) = (
      narrow,
      λ fits.
          let same = c.parts-in-Some.ensures ∙ turn fits in
          keep (subst (λ z. columns_of z ≤ most) (sym same) fits) ∙ same,
    ) in
    on_ok_weaker c.write_line-in-Some.result
    (IsPrinted-line g.W.Write.contents (IsRowLine c.args.row.now) c.args.self.now c.write_line-in-Some.new.self line
    shown is
    (subst (λ z. IsShownIn z line shown) (sym c.in-Some.is)
    (subst (λ z. IsShownIn (Some most) line (text_of z)) (sym c.deref.ensures.value) fitting)))
    c.write_line-in-Some.ensures
