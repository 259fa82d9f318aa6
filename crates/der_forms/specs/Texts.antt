-- An input as text: UTF-16 behind a byte order mark, and PEM whose line breaks are lost or spelled.
use Rattle.std.specs.Prelude.{ℕ, Bool, true, false, not, ◌==◌, ◌||◌, ◌&&◌, ◌+◌, ◌*◌, nat_lt, List, [], ◌∷◌, ◌++◌, drop, if◌then◌else◌, codes}
use Rattle.std.specs.Char.{is_ascii_whitespace}
use Rattle.std.specs.Char.Utf16.{utf16_lossy_chars}
use Rattle.std.specs.Str.{encode_utf8_all}
use Rattle.der_digits.specs.Search.{all_of_some, begins, begins_by, contains}
use Rattle.der_digits.specs.Digits.{has_columns}
use Rattle.der_forms.specs.Forms.{is_text_octet, without_mark}
use Rattle.der_forms.specs.declared.breaks.Place.{Place}
use Rattle.der_forms.specs.declared.breaks.Place.TheVariants.{Blank, Words, Label, Ended}
use Rattle.der_io.specs.Characters.{carriage_return, hyphen, line_feed}

-- the units of sixteen bits in octets, of which the first or the second has more weight
abbrev pub units_of : Bool → List ℕ → List ℕ
units_of is_first [] = []
units_of is_first (a ∷ []) = a ∷ []
units_of is_first (a ∷ b ∷ octets) = (if is_first then 256 * a + b else 256 * b + a) ∷ units_of is_first octets

-- the text in UTF-8 that the units spell; a surrogate alone is U+FFFD
abbrev pub spelled_in_utf16 : Bool → List ℕ → List ℕ
spelled_in_utf16 is_first octets = encode_utf8_all (utf16_lossy_chars (units_of is_first octets))

-- the text, if it is one, and else the input
abbrev pub if_text : List ℕ → List ℕ → List ℕ
if_text text input = if all_of_some is_text_octet text then text else input

-- the input, but text in UTF-16 behind a byte order mark as text in UTF-8
abbrev pub in_utf8 : List ℕ → List ℕ
in_utf8 input =
    if begins (255 ∷ 254 ∷ []) input then if_text (spelled_in_utf16 false (drop 2 input)) input
    else if begins (254 ∷ 255 ∷ []) input then if_text (spelled_in_utf16 true (drop 2 input)) input
    else input

-- the octet before this text, or a line feed for a carriage return that is alone
abbrev pub octet_or_break : ℕ → List ℕ → ℕ
octet_or_break b text = if b == carriage_return && not (begins (line_feed ∷ []) text) then line_feed else b

-- the text with a line feed for each carriage return alone and for each `\n`, without `\r`, and with `/` for `\/`, as
-- in strings of JSON
abbrev pub with_breaks : List ℕ → List ℕ
with_breaks [] = []
with_breaks (b ∷ text) =
    if begins (codes "\\n") (b ∷ text) then line_feed ∷ drop 1 (with_breaks text)
    else if begins (codes "\\r") (b ∷ text) then drop 1 (with_breaks text)
    else if begins (codes "\\/") (b ∷ text) then with_breaks text
    else octet_or_break b text ∷ with_breaks text

abbrev pub begins_begin : List ℕ → Bool
begins_begin text = begins (codes "-----BEGIN ") text

abbrev pub begins_end : List ℕ → Bool
begins_end text = begins (codes "-----END ") text

abbrev pub begins_space : List ℕ → Bool
begins_space text = begins_by is_ascii_whitespace text

-- a line break is wanting before this text: before an object or its end behind words; and behind a label, where more
-- stands in its line than white space and hyphens
abbrev pub lacks_break : Place → List ℕ → Bool
lacks_break Blank text = false
lacks_break Words text = begins_begin text || begins_end text
lacks_break (Label hyphens) text =
    hyphens == 5 && (begins_end text || not (begins_space text || begins (hyphen ∷ []) text))
lacks_break Ended text = false

-- the place behind the first octet of a text that is in no label
abbrev pub behind_words : Place → List ℕ → Place
behind_words place text =
    if begins (line_feed ∷ []) text then Blank
    else if begins_begin text then Label 0
    else if begins_end text then Ended
    else place

-- the place behind the first octet of a text that is in a label, behind so many hyphens in a row, up to five
abbrev pub behind_label : ℕ → List ℕ → Place
behind_label hyphens text =
    if begins (line_feed ∷ []) text then Blank
    else if nat_lt hyphens 5 then Label (if begins (hyphen ∷ []) text then hyphens + 1 else 0)
    else if begins_end text then Ended
    else if begins_space text || begins (hyphen ∷ []) text then Label hyphens else Words

-- the place behind the first octet of the text
abbrev pub place_behind : Place → List ℕ → Place
place_behind Blank text = behind_words (if begins_space text then Blank else Words) text
place_behind Words text = behind_words Words text
place_behind (Label hyphens) text = behind_label hyphens text
place_behind Ended text = behind_words Ended text

-- an octet, behind a line break where one is wanting
abbrev pub broken : Bool → ℕ → List ℕ
broken true b = line_feed ∷ b ∷ []
broken false b = b ∷ []

-- the text with each line break that PEM wants
abbrev pub unfolded : Place → List ℕ → List ℕ
unfolded place [] = []
unfolded place (b ∷ text) =
    broken (lacks_break place (b ∷ text)) b ++ unfolded (place_behind place (b ∷ text)) text

-- text, in which an object of PEM begins somewhere; not the characters beside a column of digits
abbrev pub has_begin : List ℕ → Bool
has_begin text = all_of_some is_text_octet text && (contains (codes "-----BEGIN ") text && not (has_columns text))

abbrev pub with_lines : List ℕ → List ℕ
with_lines text = if has_begin text then unfolded Blank (with_breaks (without_mark text)) else text

-- what is read of an input: its octets, or its text in UTF-8, in which PEM has its lines
abbrev pub text_of : List ℕ → List ℕ
text_of input = with_lines (in_utf8 input)
