-- For `objects::read_body`: what each turn of its loop keeps and what grows less, so that it ends.
use Rattle.std.proofs.Common.{◌≡◌, ◌++◌, ◌≤◌, ◌||◌, true, length}
use Rattle.der_digits.specs.Lines.{lines_left}
use Rattle.der_forms.specs.Decoded.{symbols_read}
use Rattle.der_forms.specs.Objects.{bad_end_in, is_encrypted, objects_in, symbols_in}
use Rattle.der_forms.proofs.objects.read_body.Given as goal

abbrev pub invariant-loop-line : goal.invariant-loop-line
invariant-loop-line l = record {
  symbols : symbols_in (lines_left l.fn.lines) ≡ symbols_read l.decoder ++ symbols_in (lines_left l.lines);
  encrypted : is_encrypted (lines_left l.fn.lines) ≡ (l.is_encrypted || is_encrypted (lines_left l.lines));
  ending : bad_end_in l.label (lines_left l.fn.lines) ≡ bad_end_in l.label (lines_left l.lines);
  objects : objects_in true (lines_left l.fn.lines) ≡ objects_in true (lines_left l.lines);
  fewer : length (lines_left l.lines) ≤ length (lines_left l.fn.lines);
}

abbrev pub decreases-loop-line : goal.decreases-loop-line
decreases-loop-line l = length (lines_left l.lines)
