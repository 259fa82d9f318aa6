-- For `search::part_before`: what each turn of its loop keeps and what grows less, so that it ends.
use Rattle.std.proofs.Common.{◌≡◌, ◌+◌, ◌≤◌, length}
use Rattle.der_digits.specs.Search.{count_before}
use Rattle.der_digits.proofs.search.part_before.Given as goal

-- the octets that were passed over, with those before the part in the rest, are those before it in the text
abbrev pub invariant-loop-rest : goal.invariant-loop-rest
invariant-loop-rest l =
    (count_before l.part l.text + length l.rest ≡ count_before l.part l.rest + length l.text)
    × (length l.rest ≤ length l.text)

abbrev pub decreases-loop-rest : goal.decreases-loop-rest
decreases-loop-rest l = length l.rest
