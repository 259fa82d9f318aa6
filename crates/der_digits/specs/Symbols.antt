-- Symbols of a text that are still to be read.
use Rattle.std.specs.Prelude.{ℕ, List}
use Rattle.der_digits.specs.Digits.{without_separators}
use Rattle.der_digits.specs.declared.hex_text.Symbols.{Symbols}

-- the symbols of what has not been read
abbrev pub symbols_left : Symbols → List ℕ
symbols_left symbols = without_separators symbols.0.now
