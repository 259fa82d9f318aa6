-- For `search::part_before`: its loop keeps its invariant.
use Rattle.std.proofs.Common.{◌≡◌, ◌∙◌, ◌+◌, ◌<◌, ◌≤◌, ℕ, List, [], ◌∷◌, drop, false, length, sym, subst, arith}
use Rattle.std.proofs.lemmas.Bool.Decides.{nat_tests}
use Rattle.der_digits.specs.Search.{begins, count_before}
use Rattle.der_digits.proofs.search.part_before.Goals as goal

-- where a text does not begin with the part, what stands before the part is one octet more than from the next one on
count_before-next :
    (part rest : List ℕ) → 0 < length rest → begins part rest ≡ false →
    (count_before part rest ≡ count_before part (drop 1 rest) + 1) × (length rest ≡ length (drop 1 rest) + 1)
count_before-next part [] some h = absurd (omega (arith, some))
count_before-next part (b ∷ rest) some h = (rw h (omega arith), omega arith)

pub loop-rest-preserved : goal.loop-rest-preserved
loop-rest-preserved c =
    let text = c.args.text.now in
    let part = c.args.part.now in
    let rest = c.loop-rest.rest.now in
    let (before, size) = c.loop-rest.invariant in
    let some : 0 < length rest =
    let is = c.is_empty.ensures in let test = c.loop-rest-test.true in grind (arith, nat_tests) in
    let (next, less) =
    count_before-next part rest some (sym c.starts_with.ensures.value ∙ c.if-starts_with.false) in
    subst (λ z. (count_before part text + length z ≡ count_before part z + length text)
    × (length z ≤ length text)) (sym c.split_at.ensures.back)
    (omega (arith, before, next, less), omega (arith, size, less))
