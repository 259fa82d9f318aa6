-- For `breaks::with_breaks`: what each turn of its loop keeps and what grows less, so that it ends.
use Rattle.std.proofs.Common.{◌≡◌, ◌++◌, length}
use Rattle.der_forms.specs.Texts.{with_breaks}
use Rattle.der_forms.proofs.breaks.with_breaks.Given as goal

abbrev pub invariant-loop-rest : goal.invariant-loop-rest
invariant-loop-rest l =
    l.broken.items ++ with_breaks l.rest ≡ with_breaks l.text

abbrev pub decreases-loop-rest : goal.decreases-loop-rest
decreases-loop-rest l = length l.rest
