-- For `row::push_spaces`: its loop keeps its invariant.
use Rattle.std.proofs.Common.{ℕ, List, [], ◌∷◌, ◌++◌, ap, append_assoc, string_bytes, sym, ◌∙◌}
use Rattle.std.specs.List.{repeat}
use Rattle.der_io.specs.Characters.{space}
use Rattle.dump_rows.proofs.Printed.{repeat-more}
use Rattle.dump_rows.proofs.row.push_spaces.Goals as goal

pub loop-preserved : goal.loop-preserved
loop-preserved c =
    let old = string_bytes c.args.out.now in
    let spaces : List ℕ = space ∷ space ∷ [] in
    c.in_ok-push_str.ensures.bytes
    ∙ (ap (λ z. z ++ spaces) c.loop.invariant
    ∙ (append_assoc old (repeat c.loop.counter spaces) spaces
    ∙ ap (λ z. old ++ z) (sym (repeat-more c.loop.counter spaces))))
