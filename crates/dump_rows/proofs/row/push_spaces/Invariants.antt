-- For `row::push_spaces`: what each turn of its loop keeps.
use Rattle.std.proofs.Common.{◌≡◌, [], ◌∷◌, ◌++◌, string_bytes}
use Rattle.std.specs.List.{repeat}
use Rattle.der_io.specs.Characters.{space}
use Rattle.dump_rows.proofs.row.push_spaces.Given as goal

abbrev pub invariant-loop : goal.invariant-loop
invariant-loop l = string_bytes l.out ≡ string_bytes l.fn.out ++ repeat l.counter (space ∷ space ∷ [])
