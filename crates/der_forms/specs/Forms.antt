-- The forms in which an input has its documents, told apart by its octets.
use Rattle.std.specs.Prelude.{ℕ, Bool, true, false, ◌||◌, ◌&&◌, nat_le, List, [], ◌∷◌, drop, if◌then◌else◌, codes}
use Rattle.std.specs.Char.{is_ascii_whitespace}
use Rattle.std.specs.List.{list_all}
use Rattle.der_digits.specs.Search.{begins, without_indent}
use Rattle.der_io.specs.Characters.{space, tilde}

-- what an input is
pub data InputKind : Type 0 where
  -- objects of PEM (RFC 7468)
  objects : InputKind
  -- text that spells octets, in hex digits or in base 64
  spelled : List ℕ → InputKind
  -- any other text: also a source of C, and columns with lines left out
  unknown_text : InputKind
  -- the octets of a document, as they are
  plain_octets : InputKind

-- the input without the byte order mark of UTF-8 at its front
abbrev pub without_mark : List ℕ → List ℕ
without_mark input = if begins (239 ∷ 187 ∷ 191 ∷ []) input then drop 3 input else input

-- the line begins an object of PEM
abbrev pub begins_object : List ℕ → Bool
begins_object line = begins (codes "-----BEGIN ") (without_indent line)

-- the octet may stand in a line above an object
abbrev pub is_text_octet : ℕ → Bool
is_text_octet b = nat_le space b || is_ascii_whitespace b

-- a line begins an object, and those above it are lines of text
abbrev pub has_object : List (List ℕ) → Bool
has_object [] = false
has_object (line ∷ lines) =
    if begins_object line then true
    else if list_all is_text_octet line then has_object lines else false

-- a character of ASCII that is printed, or white space
abbrev pub is_printed : ℕ → Bool
is_printed b = (nat_le space b && nat_le b tilde) || is_ascii_whitespace b

-- the text without its white space
abbrev pub without_spaces : List ℕ → List ℕ
without_spaces [] = []
without_spaces (b ∷ text) = if is_ascii_whitespace b then without_spaces text else b ∷ without_spaces text
