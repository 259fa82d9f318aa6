-- Texts that are written one after another, for crates that write an output in parts.
use Rattle.std.proofs.Common.{ℕ, List, ◌++◌}
use Rattle.std.specs.Prelude.{Option}
use Rattle.std.proofs.KnownBytes.{Appends-trans}
use Rattle.der_io.specs.Output.{IsWritten}

-- two texts written one after the other are written joined
pub IsWritten-append :
    (Is Later Other : List ℕ → Type 0) (a b c : Option (List ℕ)) →
    ((text more : List ℕ) → Is text → Later more → Other (text ++ more)) → IsWritten Is a b → IsWritten Later b c →
    IsWritten Other a c
IsWritten-append Is Later Other a b c turn (text, first, is) (more, next, later) =
    (text ++ more, Appends-trans a b c text more first next, turn text more is later)
