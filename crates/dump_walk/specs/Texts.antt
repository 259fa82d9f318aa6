-- What is put after a text.
use Rattle.std.specs.Prelude.{◌≡◌, ℕ, List, ◌++◌}

-- a text of some kind was put after the text
abbrev pub Adds : (List ℕ → Type 0) → List ℕ → List ℕ → Type 0
Adds Is before after = (text : List ℕ) × (after ≡ before ++ text) × Is text
