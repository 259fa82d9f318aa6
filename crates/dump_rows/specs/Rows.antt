-- The lines of rows.
use Rattle.std.specs.Prelude.{◌≡◌, ◌&&◌, ℕ, ◌-◌, ◌^◌, ◌==◌, Bool, false, None, Option, Some, List, [], ◌∷◌, ◌++◌, codes, decimal, if◌then◌else◌, length, min, nat_le, nat_lt}
use Rattle.std.specs.Fmt.{format_spec, padded_integral}
use Rattle.std.specs.List.{join_by, list_all, repeat}
use Rattle.std.specs.Str.{chars}
use Rattle.der_io.specs.Characters.{greater_than_sign, line_feed, space}
use Rattle.der_io.specs.Escaped.{all_escaped, escape_of_other}
use Rattle.dump_rows.specs.declared.row.Row.{Row}

-- a character of ASCII that is shown: one of 20 to 7E (ISO 646)
abbrev pub is_plain : ℕ → Bool
is_plain b = nat_le 32 b && nat_lt b 127

-- the text with each character escaped that is not shown: none that a terminal obeys, and none that is invisible
abbrev pub shown_text : List ℕ → List ℕ
shown_text text = if list_all is_plain text then text else all_escaped escape_of_other (chars text)

-- a number in decimal, with spaces before it where it has fewer digits than the width
abbrev pub right_of : ℕ → ℕ → List ℕ
right_of width n = padded_integral (format_spec space 3 0 width (2 ^ 64 - 1)) false [] (decimal n)

-- the offset on the right of seven columns, the first of which is `>` inside octets of a string
abbrev pub offset_column : Row → List ℕ
offset_column row = if row.is_inside then greater_than_sign ∷ right_of 6 row.offset else right_of 7 row.offset

-- the size of the contents octets, unless the length is of the indefinite form, for which `inf` stands
abbrev pub size_of : Row → Option ℕ
size_of row = if row.is_indefinite then None else Some row.contents

abbrev pub size_text : Option ℕ → List ℕ
size_text None = codes "inf"
size_text (Some size) = decimal size

-- the size on the right of seven columns
abbrev pub size_column : Option ℕ → List ℕ
size_column None = codes "    inf"
size_column (Some size) = right_of 7 size

-- the offset, the sizes of header and contents octets, and two spaces a level, for 40 levels at most
abbrev pub columns_text : Row → List ℕ
columns_text row =
    offset_column row ++ (space ∷ (right_of 2 row.header ++ (space ∷ (
    size_column (size_of row) ++ (space ∷ space ∷ repeat (min row.depth 40) (space ∷ space ∷ []))))))

-- the mark at the end of a line: the rules in words, if there are some
abbrev pub mark_text : {A : Type 0} → (A → List ℕ) → List A → List ℕ
mark_text text rules =
    if length rules == 0 then [] else codes " (not DER: " ++ (join_by text (codes ", ") rules ++ codes ")")

-- the line of a row: its columns, the name of a field, its type, its value, what is wrong, and what of DER it breaks;
-- and octet 0A, which ends it
pub record IsRowLine (row : Row) (line : List ℕ) : Type 0 where
  pub field : List ℕ
  pub value : List ℕ
  pub fault : List ℕ
  pub line_is : line ≡ shown_text (columns_text row) ++ (field ++ (shown_text row.type_name.now ++ (value
      ++ (fault ++ (shown_text (mark_text (λ r. r.now) row.rules.now) ++ line_feed ∷ [])))))

-- a line of no row: what it begins with, a space, and a text; and octet 0A
abbrev pub note_line : ℕ → List ℕ → List ℕ
note_line start text = shown_text (start ∷ space ∷ text) ++ line_feed ∷ []
