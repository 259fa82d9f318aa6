-- For `breaks::unfolded`: what each turn of its loop keeps and what grows less, so that it ends.
use Rattle.std.proofs.Common.{◌≡◌, ◌++◌, length}
use Rattle.der_forms.specs.Texts.{unfolded}
use Rattle.der_forms.specs.declared.breaks.Place.TheVariants.{Blank}
use Rattle.der_forms.proofs.breaks.unfolded.Given as goal

abbrev pub invariant-loop-rest : goal.invariant-loop-rest
invariant-loop-rest l =
    l.whole.items ++ unfolded l.place l.rest ≡ unfolded Blank l.text

abbrev pub decreases-loop-rest : goal.decreases-loop-rest
decreases-loop-rest l = length l.rest
