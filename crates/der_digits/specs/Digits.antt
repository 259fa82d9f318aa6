-- Hex digits in a text: plain, or in columns as `xxd`, `hexdump` and `od` print them.
use Rattle.std.specs.Prelude.{ℕ, Bool, true, not, ◌==◌, ◌||◌, ◌&&◌, nat_le, List, [], ◌∷◌, ◌++◌, if◌then◌else◌, codes, drop, length, take}
use Rattle.std.specs.Char.{is_ascii_hexdigit, is_ascii_whitespace}
use Rattle.std.specs.List.{list_all, list_any, prefix_len}
use Rattle.der_digits.specs.Search.{begins, up_to, without_indent}
use Rattle.der_io.specs.Characters.{colon, comma, hyphen, left_brace, right_brace, vertical_bar}

-- the octet may stand between hex digits: white space, `:`, `,`, `-`, `{` and `}`
abbrev pub is_separator : ℕ → Bool
is_separator b =
    is_ascii_whitespace b
    || (b == colon || b == comma || b == hyphen || b == left_brace || b == right_brace)

-- the text begins with what may stand before two hex digits, `0x` or `\x`
abbrev pub begins_prefix : List ℕ → Bool
begins_prefix text = begins (codes "0x") text || begins (codes "\\x") text

-- what is left of the text without separators and without each `0x` and `\x`
abbrev pub without_separators : List ℕ → List ℕ
without_separators [] = []
without_separators (b ∷ text) =
    if begins_prefix (b ∷ text) then drop 1 (without_separators text)
    else if is_separator b then without_separators text
    else b ∷ without_separators text

-- no text, or text that begins with white space
abbrev pub begins_space : List ℕ → Bool
begins_space [] = true
begins_space (b ∷ text) = is_ascii_whitespace b

-- a pair of digits stands behind this offset, as `od -t x1` prints it
abbrev pub has_pairs : List ℕ → List ℕ → Bool
has_pairs offset text = begins offset text && begins_space (drop 2 (drop (length offset) text))

-- a binary digit
abbrev pub is_bit : ℕ → Bool
is_bit b = nat_le 48 b && nat_le b 49

-- eight bits stand behind the offset, as `xxd -b` prints an octet
abbrev pub has_bits : List ℕ → Bool
has_bits text =
    begins (codes "00000000: ") text
    && (nat_le 18 (length text)
    && (list_all is_bit (take 8 (drop 10 text)) && begins_space (drop 18 text)))

-- the offset in a line: the hex digits at its front
abbrev pub offset_of : List ℕ → List ℕ
offset_of line = take (prefix_len is_ascii_hexdigit line) line

-- the digit zero
abbrev pub is_zero : ℕ → Bool
is_zero b = b == 48

-- a pair of digits stands behind four zeros of an offset or more and two spaces or more, as Wireshark prints it, or a
-- tab, as `certutil` does; there may be an indent
abbrev pub has_bare_offset : List ℕ → Bool
has_bare_offset text =
    let line = without_indent text in
    let rest = drop (length (offset_of line)) line in
    begins (codes "0000") line
    && (list_all is_zero (offset_of line)
    && ((begins (codes "  ") rest || begins (codes "\t") rest) && begins_space (drop 2 (without_indent rest))))

-- the text comes in columns, as `xxd`, `hexdump -C`, `od -t x1`, Wireshark and `certutil` print them: an offset,
-- digits, and maybe characters. `od` prints seven octal digits of an offset, or six hex digits
unfoldable pub has_columns : List ℕ → Bool
has_columns text =
    begins (codes "00000000: ") text
    || (begins (codes "00000000  ") text && list_any (λ b. b == vertical_bar) text)
    || (has_pairs (codes "0000000 ") text || (has_pairs (codes "000000 ") text || has_bare_offset text))

-- the text begins with an offset, and then comes in another way, as that of `hexdump`, `od` and `xxd -b`: in words
-- whose octets are turned round, in octal digits or in bits
abbrev pub has_other_columns : List ℕ → Bool
has_other_columns text =
    ((begins (codes "0000000 ") text || begins (codes "000000 ") text) && not (has_columns text))
    || has_bits text

-- the digits behind an offset, up to a column of characters: this begins with two spaces where `:` ends the offset, and
-- else with a `|`, a `>`, or three spaces behind the digits
abbrev pub column_behind : List ℕ → List ℕ
column_behind text =
    if begins (codes ":") text then up_to (codes "  ") (drop 1 text)
    else up_to (codes "   ") (without_indent (up_to (codes "|") (up_to (codes ">") text)))

-- the column of digits in a line, behind an indent and four digits of an offset or more
abbrev pub column_of : List ℕ → List ℕ
column_of line =
    let text = without_indent line in
    if nat_le 4 (length (offset_of text)) then column_behind (drop (length (offset_of text)) text) else line

-- what may be the digits of the lines, which come in columns or do not
abbrev pub digits_of : Bool → List (List ℕ) → List ℕ
digits_of in_columns [] = []
digits_of in_columns (line ∷ lines) =
    without_separators (if in_columns then column_of line else line) ++ digits_of in_columns lines
