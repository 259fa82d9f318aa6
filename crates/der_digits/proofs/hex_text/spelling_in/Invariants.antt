-- For `hex_text::spelling_in`: what each turn of its loop keeps.
use Rattle.std.proofs.Common.{◌≡◌, ◌++◌, ℕ, List}
use Rattle.der_io.specs.Lines.{lines_of}
use Rattle.der_digits.specs.Decoded.{HasRead}
use Rattle.der_digits.specs.Digits.{digits_of}
use Rattle.der_digits.specs.Lines.{lines_left}
use Rattle.der_digits.proofs.hex_text.spelling_in.Given as goal

-- what is left of the lines completes the digits that were read
abbrev pub invariant-loop-line : goal.invariant-loop-line
invariant-loop-line l =
    (read : List ℕ) × HasRead l.decoder read
    × (read ++ digits_of l.in_columns (lines_left l.line-iterator) ≡ digits_of l.in_columns (lines_of l.text))
