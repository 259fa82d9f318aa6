-- For `printer::Printer::push_note`: what it returns is right.
use Rattle.std.proofs.Common.{◌≡◌, [], ◌∷◌, ◌++◌, Some, append-nil, refl, subst, sym}
use Rattle.std.proofs.lemmas.Result.{on_ok_weaker}
use Rattle.dump_rows.proofs.Printed.{IsPrinted-line}
use Rattle.dump_rows.specs.Parts.{text_of}
use Rattle.dump_rows.specs.Printing.{IsShownIn}
use Rattle.dump_rows.specs.Rows.{shown_text}
use Rattle.dump_rows.proofs.printer.Printer.push_note.Goals as goal

pub returns-in-None : goal.returns-in-None
returns-in-None g c =
    let line = shown_text c.args.line.now in
    on_ok_weaker c.write_line.result
    (IsPrinted-line g.W.Write.contents (λ text. text ≡ line ++ 10 ∷ []) c.args.self.now c.write_line.new.self line
    (line ++ []) refl
    (subst (λ z. IsShownIn z line (line ++ [])) (sym c.in-None.is) (append-nil line))) c.write_line.ensures

pub returns-in_ok-shown-in-Some : goal.returns-in_ok-shown-in-Some
returns-in_ok-shown-in-Some g c =
    let most = c.in-Some.most in
    let line = shown_text c.args.line.now in
    let shown = text_of c.deref.result.now in
    on_ok_weaker c.write_line-in-Some.result
    (IsPrinted-line g.W.Write.contents (λ text. text ≡ line ++ 10 ∷ []) c.args.self.now c.write_line-in-Some.new.self
    line shown refl
    (subst (λ z. IsShownIn z line shown) (sym c.in-Some.is)
    (subst (λ z. IsShownIn (Some most) line (text_of z)) (sym c.deref.ensures.value)
    (subst (λ z. IsShownIn (Some most) z (text_of c.in_ok-shown-in-Some.shown.items)) (append-nil line)
    c.in_ok-shown-in-Some.ensures)))) c.write_line-in-Some.ensures
