-- For `hex_text::read_symbols`: what each turn of its loop keeps.
use Rattle.std.proofs.Common.{◌≡◌, ◌++◌, ℕ, List}
use Rattle.der_digits.specs.Decoded.{HasRead}
use Rattle.der_digits.specs.Digits.{without_separators}
use Rattle.der_digits.specs.Symbols.{symbols_left}
use Rattle.der_digits.proofs.hex_text.read_symbols.Given as goal

-- what is left of the text completes the digits that were read
abbrev pub invariant-loop-symbol : goal.invariant-loop-symbol
invariant-loop-symbol l =
    (digits : List ℕ) → HasRead l.fn.decoder digits →
    (read : List ℕ) × HasRead l.decoder read
    × (read ++ symbols_left l.symbol-iterator ≡ digits ++ without_separators l.text)
