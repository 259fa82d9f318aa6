-- Text that can be shown on a line.
use Rattle.std.specs.Prelude.{◌≡◌, ◌++◌, ◌∷◌, ℕ, List, []}
use Rattle.der_io.specs.Escaped.{all_escaped, escape_of_other}

-- the text is of characters that are shown as they are; in the place of each other one stands `\u{..}`. It has no line
-- feed, and no character that a terminal obeys
abbrev pub IsShown : List ℕ → Type 0
IsShown text = (characters : List ℕ) × (text ≡ all_escaped escape_of_other characters)

-- lines, one after another, each of which is text that is shown, and a line feed
pub data AreLines : List ℕ → Type 0 where
  no_line : AreLines []
  line_more : {before line : List ℕ} → AreLines before → IsShown line → AreLines (before ++ (line ++ 10 ∷ []))
