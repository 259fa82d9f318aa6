-- For `lines::is_pem`: what each turn of its loop keeps.
use Rattle.std.proofs.Common.{◌≡◌}
use Rattle.der_digits.specs.Lines.{lines_left}
use Rattle.der_io.specs.Lines.{lines_of}
use Rattle.der_forms.specs.Forms.{has_object}
use Rattle.der_forms.proofs.lines.is_pem.Given as goal

abbrev pub invariant-loop-line : goal.invariant-loop-line
invariant-loop-line l = has_object (lines_left l.line-iterator) ≡ has_object (lines_of l.text)
