-- For `written::is_label`: what each turn of its loop keeps and what grows less, so that it ends.
use Rattle.std.proofs.Common.{◌≡◌, length}
use Rattle.der_forms.specs.Written.{is_label, is_label_rest}
use Rattle.der_forms.proofs.written.is_label.Given as goal

abbrev pub invariant-loop-rest : goal.invariant-loop-rest
invariant-loop-rest l = is_label_rest l.is_behind_character l.rest ≡ is_label l.text

abbrev pub decreases-loop-rest : goal.decreases-loop-rest
decreases-loop-rest l = length l.rest
