-- What a printer writes.
use Rattle.std.specs.Prelude.{◌≡◌, ◌≤◌, ◌++◌, ◌∷◌, ℕ, false, List, [], None, Option, Some}
use Rattle.std.specs.Io.KnownBytes.{Appends}
use Rattle.std.specs.List.{flat_map}
use Rattle.std.specs.Str.{chars}
use Rattle.der_io.specs.Characters.{line_feed}
use Rattle.dump_rows.specs.Parts.{text_of, written}
use Rattle.dump_rows.specs.declared.part.Look.{Look}
use Rattle.dump_rows.specs.declared.part.Part.{Part}
use Rattle.dump_rows.specs.declared.printer.Printer.{Printer}
use Rattle.unicode_width.specs.Width.{str_width}

-- how many columns of a terminal a text takes
abbrev pub columns_of : List ℕ → ℕ
columns_of text = str_width false (chars text)

-- what is shown of a line: in a width no more columns than this, and the line itself where it has room
abbrev pub IsShownIn : Option ℕ → List ℕ → List ℕ → Type 0
IsShownIn None line shown = shown ≡ line
IsShownIn (Some most) line shown = (columns_of shown ≤ most) × (columns_of line ≤ most → shown ≡ line)

-- what is shown of lines
pub data AreShownIn : Option ℕ → List ℕ → List ℕ → Type 0 where
  no_line :
      {width : Option ℕ} {text shown : List ℕ} → text ≡ [] → shown ≡ [] → AreShownIn width text shown
  one_line :
      {width : Option ℕ} {text shown : List ℕ} (line of_line lines of_lines : List ℕ) →
      text ≡ line ++ line_feed ∷ lines → shown ≡ of_line ++ line_feed ∷ of_lines →
      IsShownIn width line of_line → AreShownIn width lines of_lines → AreShownIn width text shown

-- parts were written in a look, which are what is shown in a width of lines of some kind
pub record AreWritten (Is : List ℕ → Type 0) (look : Look) (width : Option ℕ) (before after : Option (List ℕ)) :
    Type 0 where
  pub parts : List Part
  pub wrote : Appends before after (flat_map (written look) parts)
  pub lines : List ℕ
  pub shown : AreShownIn width lines (text_of parts)
  pub is : Is lines

-- a printer wrote them in its look and its width
abbrev pub IsPrinted :
    {W : Type 0} → (W → Option (List ℕ)) → (List ℕ → Type 0) → Printer W → Printer W → Type 0
IsPrinted contents Is old new =
    (new.look ≡ old.look) × (new.width ≡ old.width)
    × AreWritten Is old.look old.width (contents old.out) (contents new.out)

-- it wrote lines
abbrev pub PrintsText : {W : Type 0} → (W → Option (List ℕ)) → Printer W → Printer W → Type 0
PrintsText contents old new = IsPrinted contents (λ text. Unit {0}) old new

-- it wrote parts whose text is of some kind
pub record WritesParts {W : Type 0}
    (contents : W → Option (List ℕ)) (Is : List ℕ → Type 0) (old new : Printer W) : Type 0 where
  pub look : new.look ≡ old.look
  pub width : new.width ≡ old.width
  pub parts : List Part
  pub wrote : Appends (contents old.out) (contents new.out) (flat_map (written old.look) parts)
  pub is : Is (text_of parts)
