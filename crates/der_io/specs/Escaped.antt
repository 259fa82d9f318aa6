-- Text for a terminal, in which what is no printed character is escaped.
use Rattle.std.specs.Prelude.{ℕ, ◌/◌, ◌%◌, ◌==◌, ◌&&◌, ◌||◌, Bool, false, not, nat_lt, List, [], ◌∷◌, ◌++◌, codes, if◌then◌else◌}
use Rattle.std.specs.Char.{encode_utf8}
use Rattle.std.specs.Fmt.{digits}
use Rattle.std.specs.Int.{is_in_range}
use Rattle.std.specs.Str.{chars, is_utf8}
use Rattle.ucd_category.specs.GeneralCategory.{general_category, general_category_eq}
use Rattle.ucd_category.specs.GeneralCategoryGroup.{in_group}
use Rattle.ucd_category.specs.declared.GeneralCategory.TheVariants.{LineSeparator, ParagraphSeparator}
use Rattle.ucd_category.specs.declared.GeneralCategoryGroup.TheVariants.{Other}
use Rattle.ucd_derived.specs.Binary.{is_default_ignorable_code_point}
use Rattle.der_io.specs.Characters.{backslash, carriage_return, line_feed, quotation_mark, tab}

-- a control character
abbrev pub is_control : ℕ → Bool
is_control c = nat_lt c 0x20 || is_in_range 0x7F 0x9F c

-- a character that a terminal may obey, show as nothing or not know, by its properties in Unicode: General_Category Cc,
-- Cf, Cs, Co, Cn (group C), Zl or Zp; or Default_Ignorable_Code_Point. Each with Bidi_Control is Cf
abbrev pub is_invisible : ℕ → Bool
is_invisible c =
    in_group Other (general_category c) || general_category_eq (general_category c) LineSeparator
    || general_category_eq (general_category c) ParagraphSeparator || is_default_ignorable_code_point c

-- the character is shown as it is
abbrev pub is_shown : ℕ → Bool
is_shown c = not (is_control c) && (nat_lt c 0x80 || not (is_invisible c))

-- what is written for a character that has no letter of its own behind a backslash: the character, or `\u{..}`
abbrev pub escape_of_other : ℕ → List ℕ
escape_of_other c = if is_shown c then encode_utf8 c else codes "\\u{" ++ (digits 16 false c ++ codes "}")

-- what is written for a character
abbrev pub escape_of : ℕ → List ℕ
escape_of c =
    if c == line_feed then codes "\\n"
    else if c == carriage_return then codes "\\r"
    else if c == tab then codes "\\t"
    else if c == quotation_mark then codes "\\\""
    else if c == backslash then codes "\\\\"
    else escape_of_other c

-- what is written for an octet of what is no text: a character of ASCII, or `\x..`
abbrev pub escape_of_octet : ℕ → List ℕ
escape_of_octet b =
    if nat_lt b 128 then escape_of b else codes "\\x" ++ (digits 16 false (b / 16) ++ digits 16 false (b % 16))

-- what is written for each, one after another
abbrev pub all_escaped : (ℕ → List ℕ) → List ℕ → List ℕ
all_escaped escape [] = []
all_escaped escape (x ∷ xs) = escape x ++ all_escaped escape xs

-- text in UTF-8 by its characters, and other octets one by one
abbrev pub escaped : List ℕ → List ℕ
escaped octets =
    if is_utf8 octets then all_escaped escape_of (chars octets) else all_escaped escape_of_octet octets
