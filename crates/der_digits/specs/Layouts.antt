-- Text with hex digits in a layout of which nothing is said but that it is one.
use Rattle.std.specs.Prelude.{ℕ, Bool, true, false, ◌&&◌, ◌||◌, List, [], ◌∷◌, drop, if◌then◌else◌, codes}
use Rattle.std.specs.Char.{is_ascii_whitespace}
use Rattle.std.specs.List.{list_all}
use Rattle.der_digits.specs.Search.{begins, contains, without_indent}

-- the line says that lines like the one before it are left out
abbrev pub leaves_out : List ℕ → Bool
leaves_out line =
    begins (codes "*") (without_indent line) && list_all is_ascii_whitespace (drop 1 (without_indent line))

-- one of the lines says that lines like the one before it are left out
abbrev pub some_left_out : List (List ℕ) → Bool
some_left_out [] = false
some_left_out (line ∷ lines) = if leaves_out line then true else some_left_out lines

-- an array or a string begins in the text, as in a source of C
abbrev pub has_value : List ℕ → Bool
has_value text = contains (codes "{") text || contains (codes "\"") text
