-- Lines of JSON, and texts that go on with others.
use Rattle.std.specs.Prelude.{◌≡◌, ℕ, Bool, List, ◌++◌, codes}
use Rattle.dump_json.specs.Grammar.{IsString, IsValue, comma_if}

-- a JSON text of RFC 8259 (section 2) in one line: a value, and one line feed behind it
abbrev pub IsLine : List ℕ → Type 0
IsLine line = (text : List ℕ) × (line ≡ text ++ codes "\n") × IsValue text

-- lines, one or more
pub data AreLines : List ℕ → Type 0 where
  one : (line : List ℕ) → IsLine line → AreLines line
  more : (lines line : List ℕ) → AreLines lines → IsLine line → AreLines (lines ++ line)

-- behind a text of one kind, it makes one of another
abbrev pub Turns : (List ℕ → Type 0) → (List ℕ → Type 0) → List ℕ → Type 0
Turns From To s = (t : List ℕ) → From t → To (t ++ s)

-- what of a member stands before its value, with the comma before it, where others stand before
abbrev pub BeginsMember : Bool → List ℕ → Type 0
BeginsMember later s = (name : List ℕ) × (s ≡ comma_if later ++ (name ++ codes ":")) × IsString name
