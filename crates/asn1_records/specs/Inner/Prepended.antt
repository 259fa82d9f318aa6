-- Octets that are written from the last to the first.
use Rattle.std.specs.Prelude.{ℕ, List}

-- the octets that were written, and how many more there is space for
pub record Prepended : Type 0 where
  pub octets : List ℕ
  pub space : ℕ
