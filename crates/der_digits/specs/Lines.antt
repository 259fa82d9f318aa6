-- Lines of a text that are still to be read.
use Rattle.std.specs.Prelude.{ℕ, List}
use Rattle.der_io.specs.Lines.{lines_of}
use Rattle.der_digits.specs.declared.lines.Lines.{Lines}

-- the lines of what has not been read
abbrev pub lines_left : Lines → List (List ℕ)
lines_left lines = lines_of lines.rest.now
