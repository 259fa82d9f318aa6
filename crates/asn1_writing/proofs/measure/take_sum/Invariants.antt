-- For `measure::take_sum`: what each turn of its loop keeps and what grows less, so that it ends.
use Rattle.std.proofs.Common.{◌≡◌, ℕ, ◌++◌, List, length}
use Rattle.std.specs.List.{sum}
use Rattle.asn1_writing.proofs.measure.take_sum.Given as goal

-- the numbers that were taken
abbrev pub invariant-loop-i : goal.invariant-loop-i
invariant-loop-i l = (taken : List ℕ) × (l.fn.sizes.items ≡ l.sizes.items ++ taken) × (length taken ≡ l._i) ×
    (l.total ≡ sum taken)
