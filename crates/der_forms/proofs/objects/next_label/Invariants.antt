-- For `objects::next_label`: what each turn of its loop keeps and what grows less, so that it ends.
use Rattle.std.proofs.Common.{◌≡◌, ◌≤◌, false, length}
use Rattle.der_digits.specs.Lines.{lines_left}
use Rattle.der_forms.specs.Objects.{objects_in}
use Rattle.der_forms.proofs.objects.next_label.Given as goal

abbrev pub invariant-loop-line : goal.invariant-loop-line
invariant-loop-line l =
    (objects_in false (lines_left l.lines) ≡ objects_in false (lines_left l.fn.lines))
    × (length (lines_left l.lines) ≤ length (lines_left l.fn.lines))

abbrev pub decreases-loop-line : goal.decreases-loop-line
decreases-loop-line l = length (lines_left l.lines)
