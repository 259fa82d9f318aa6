-- What a writer holds later.
use Rattle.std.specs.Prelude.{ℕ, List, Option}
use Rattle.std.specs.Io.KnownBytes.{Appends}

-- known bytes stay at the front, and more may follow
abbrev pub Grows : Option (List ℕ) → Option (List ℕ) → Type 0
Grows before after = (more : List ℕ) × Appends before after more
