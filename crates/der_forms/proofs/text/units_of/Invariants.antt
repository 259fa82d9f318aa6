-- For `text::units_of`: what each turn of its loop keeps and what grows less, so that it ends.
use Rattle.std.proofs.Common.{◌≡◌, ◌++◌, length}
use Rattle.der_forms.specs.Texts.{units_of}
use Rattle.der_forms.proofs.text.units_of.Given as goal

abbrev pub invariant-loop-rest : goal.invariant-loop-rest
invariant-loop-rest l =
    l.units.items ++ units_of l.is_first l.rest ≡ units_of l.is_first l.octets

abbrev pub decreases-loop-rest : goal.decreases-loop-rest
decreases-loop-rest l = length l.rest
