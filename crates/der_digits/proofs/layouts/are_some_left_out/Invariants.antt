-- For `layouts::are_some_left_out`: what each turn of its loop keeps.
use Rattle.std.proofs.Common.{◌≡◌}
use Rattle.der_io.specs.Lines.{lines_of}
use Rattle.der_digits.specs.Layouts.{some_left_out}
use Rattle.der_digits.specs.Lines.{lines_left}
use Rattle.der_digits.proofs.layouts.are_some_left_out.Given as goal

abbrev pub invariant-loop-line : goal.invariant-loop-line
invariant-loop-line l = some_left_out (lines_left l.line-iterator) ≡ some_left_out (lines_of l.text)
