-- The form of an input, by its text.
use Rattle.std.specs.Prelude.{ℕ, Bool, false, not, ◌==◌, ◌||◌, ◌&&◌, ◌+◌, ◌-◌, ◌*◌, nat_le, nat_lt, List, [], ◌∷◌, Option, Some, None, drop, take, fold, if◌then◌else◌, length}
use Rattle.std.specs.Char.{is_ascii_hexdigit, is_ascii_whitespace}
use Rattle.std.specs.Result.{result_ok}
use Rattle.std.specs.Str.{is_utf8}
use Rattle.base64.specs.Engines.{standard, standard_pad_indifferent, url_safe_pad_indifferent}
use Rattle.base64.specs.GeneralPurpose.{decode_of as decode_base64}
use Rattle.der_io.specs.Characters.{space}
use Rattle.der_io.specs.Lines.{lines_of}
use Rattle.der_forms.specs.Forms.{InputKind, objects, unknown_text, plain_octets, spelled, has_object, without_mark, without_spaces, is_printed}
use Rattle.der_digits.specs.Search.{all_of_some, begins}
use Rattle.der_digits.specs.Digits.{digits_of, has_columns, has_other_columns}
use Rattle.der_digits.specs.Layouts.{has_value, some_left_out}
use Rattle.der_digits.specs.Spelled.{octets_of_pairs}

-- the number behind which these digits in base 256 stand
abbrev pub with_digits : ℕ → List ℕ → ℕ
with_digits number digits = fold (λ front digit. 256 * front + digit) number digits

-- so many octets are the digits of a number in base 256, and as many octets follow as it says
abbrev pub number_fits : ℕ → List ℕ → Bool
number_fits count octets =
    nat_le count (length octets) && with_digits 0 (take count octets) == length (drop count octets)

-- length octets of the definite form, and as many octets behind them as they say (X.690 8.1.3)
abbrev pub length_fits : List ℕ → Bool
length_fits [] = false
length_fits (n ∷ rest) =
    if nat_lt n 128 then n == length rest
    else nat_lt 128 n && nat_lt n 255 && number_fits (n - 128) rest

-- the octets are one SEQUENCE, to their end
abbrev pub is_sequence : List ℕ → Bool
is_sequence octets = begins (48 ∷ []) octets && length_fits (drop 1 octets)

abbrev pub if_sequence : Option (List ℕ) → InputKind → InputKind
if_sequence None form = form
if_sequence (Some octets) form = if is_sequence octets then spelled octets else form

-- base 64 without its padding, or with `-` and `_` for `+` and `/` (RFC 4648, section 5), is told from words by its
-- octets, which are one SEQUENCE
abbrev pub of_loose_base64 : List ℕ → InputKind
of_loose_base64 symbols =
    if_sequence (result_ok (decode_base64 standard_pad_indifferent symbols))
    (if_sequence (result_ok (decode_base64 url_safe_pad_indifferent symbols)) unknown_text)

-- base 64 with its padding, if it is that, is told from words by its first octet, that of a SEQUENCE
abbrev pub of_base64 : Option (List ℕ) → List ℕ → InputKind
of_base64 (Some octets) symbols = if begins (48 ∷ []) octets then spelled octets else unknown_text
of_base64 None symbols = of_loose_base64 symbols

-- the form of hex digits, of which one may be left over
abbrev pub of_hex_digits : Option (List ℕ) → InputKind
of_hex_digits None = unknown_text
of_hex_digits (Some octets) = spelled octets

-- the form of symbols, if they are hex digits, and otherwise another form
abbrev pub if_digits : List ℕ → InputKind → InputKind
if_digits symbols form =
    if all_of_some is_ascii_hexdigit symbols then of_hex_digits (octets_of_pairs symbols) else form

-- the form of symbols: hex digits with separators between them; or otherwise maybe base 64, but for a source of C
abbrev pub of_symbols : List ℕ → InputKind
of_symbols text =
    if_digits (digits_of (has_columns text) (lines_of text))
    (if has_value text then unknown_text
    else of_base64 (result_ok (decode_base64 standard (without_spaces text))) (without_spaces text))

-- the form of a text, which columns with lines left out are not told of
abbrev pub form_of_text : List ℕ → InputKind
form_of_text text =
    if has_other_columns text then unknown_text
    else if has_columns text && some_left_out (lines_of text) then unknown_text
    else of_symbols text

-- no control character of ASCII, but white space. A form feed is the identifier octet of a UTF8String
abbrev pub is_in_words : ℕ → Bool
is_in_words b = (nat_le space b && not (b == 127)) || (is_ascii_whitespace b && not (b == 12))

-- the octets are words in UTF-8
abbrev pub are_words : List ℕ → Bool
are_words octets = all_of_some is_in_words octets && is_utf8 octets

abbrev pub form_behind_mark : List ℕ → InputKind
form_behind_mark text =
    if has_object (lines_of text) then objects
    else if all_of_some is_printed text then form_of_text text
    else if are_words text then unknown_text else plain_octets

-- the form of an input
abbrev pub form_is : List ℕ → InputKind
form_is input = form_behind_mark (without_mark input)
