-- For `hex_text::spelling_in`: what it returns is right, where a symbol is no digit.
use Rattle.std.proofs.Common.{◌≡◌, ◌++◌, ◌∙◌, ap, false, subst, sym}
use Rattle.std.specs.List.{list_all}
use Rattle.std.specs.Char.{is_ascii_hexdigit}
use Rattle.der_io.specs.Lines.{lines_of}
use Rattle.der_digits.specs.Decoded.{IsRead}
use Rattle.der_digits.specs.Digits.{digits_of, without_separators}
use Rattle.der_digits.specs.Lines.{lines_left}
use Rattle.der_digits.proofs.Spelled.{not_read}
use Rattle.der_digits.proofs.hex_text.spelling_in.Goals as goal

pub returns-then-not-branch : goal.returns-then-not-branch
returns-then-not-branch c =
    let (read, has, e) = c.loop-line.invariant in
    let in_columns = c.is_in_columns-in_columns.result in
    let part = without_separators c.digits_part.result.now in
    let wrong : list_all is_ascii_hexdigit (read ++ part) ≡ false =
    subst (λ is_read. IsRead is_read c.read_symbols.new.decoder (read ++ part)) c.if-not-branch.true
    (c.in_ok-read_symbols.ensures read has) in
    let whole : read ++ (part ++ digits_of in_columns (lines_left c.next.new.self))
    ≡ digits_of in_columns (lines_of c.args.text.now) =
    rw c.digits_part.ensures (ap (λ lines. read ++ digits_of in_columns lines) (sym c.in-Some.ensures.steps) ∙ e) in
    not_read read part (digits_of in_columns (lines_left c.next.new.self)) _ wrong
    (whole ∙ ap (λ b. digits_of b (lines_of c.args.text.now)) c.is_in_columns-in_columns.ensures)
