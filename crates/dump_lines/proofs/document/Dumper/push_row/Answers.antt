-- For `encodings::push_row`: what it returns is right.
use Rattle.std.proofs.Common.{◌≡◌, ◌∙◌, [], false, refl, subst, sym, true}
use Rattle.dump_lines.specs.Dump.{IsTextOf, IsTextUnless}
use Rattle.dump_lines.specs.Steps.{shown_piece}
use Rattle.dump_rows.proofs.Printed.{IsPrinted-nil, IsPrinted-weaker}
use Rattle.dump_rows.specs.Rows.{IsRowLine}
use Rattle.dump_walk.specs.Fronts.{is_too_deep}
use Rattle.dump_lines.proofs.document.Dumper.push_row.Goals as goal

pub returns-then-is_too_deep : goal.returns-then-is_too_deep
returns-then-is_too_deep g c =
    let piece = c.args.piece.now in
    let most = piece.place.style.most_depth in
    let deep : is_too_deep most piece.place.depth ≡ true = sym c.is_too_deep.ensures ∙ c.if-is_too_deep.true in
    IsPrinted-nil g.W.Write.contents (IsTextOf most (shown_piece piece)) c.args.printer.now
    (subst (λ z. IsTextUnless z (shown_piece piece) []) (sym deep) refl)

pub returns : goal.returns
returns g c =
    let piece = c.args.piece.now in
    let most = piece.place.style.most_depth in
    let row = c.row_of.result in
    let deep : is_too_deep most piece.place.depth ≡ false = sym c.is_too_deep.ensures ∙ c.if-is_too_deep.false in
    IsPrinted-weaker g.W.Write.contents (IsRowLine row) (IsTextOf most (shown_piece piece))
    c.args.printer.now c.push.new.self
    (λ text line. subst (λ z. IsTextUnless z (shown_piece piece) text) (sym deep) (row, c.row_of.ensures, line))
    c.in_ok-push.ensures
