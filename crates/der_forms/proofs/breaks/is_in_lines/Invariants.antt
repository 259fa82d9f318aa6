-- For `breaks::is_in_lines`: what each turn of its loop keeps and what grows less, so that it ends.
use Rattle.std.proofs.Common.{◌≡◌, length}
use Rattle.der_forms.specs.Texts.{unfolded, with_breaks}
use Rattle.der_forms.specs.declared.breaks.Place.TheVariants.{Blank}
use Rattle.der_forms.proofs.breaks.is_in_lines.Given as goal

-- if what is left stays as it is, all does
abbrev pub invariant-loop-rest : goal.invariant-loop-rest
invariant-loop-rest l =
    (with_breaks l.rest ≡ l.rest → with_breaks l.text ≡ l.text)
    × (unfolded l.place l.rest ≡ l.rest → unfolded Blank l.text ≡ l.text)

abbrev pub decreases-loop-rest : goal.decreases-loop-rest
decreases-loop-rest l = length l.rest
