-- Contents octets of an OID-IRI and a RELATIVE-OID-IRI (X.690 8.21, 8.22; X.680 34, 35): the UTF-8 of labels with a
-- solidus between each two, before the first of which an OID-IRI has a solidus too.
use Rattle.std.specs.Prelude.{◌==◌, ◌&&◌, ◌||◌, ℕ, ◌%◌, nat_lt, Bool, false, not, List, [], ◌∷◌, length, codes}
use Rattle.std.specs.Char.{is_ascii_alphanumeric, is_ascii_digit}
use Rattle.std.specs.List.{list_all, list_any, slice_split}
use Rattle.std.specs.Str.{byte, chars, is_utf8}
use Rattle.asn1_numbers.specs.Octets.{digit}

-- a character from the first number up to the last
abbrev pub is_within : ℕ → ℕ → ℕ → Bool
is_within first last c = not (nat_lt c first) && not (nat_lt last c)

-- the characters of a label past ASCII (X.660 7.5), which are the ucschar of RFC 3987: A0 to D7FF, F900 to FDCF, FDF0
-- to FFEF; and from 10000 to EFFFD those whose last four digits are not FFFE or FFFF, without E0000 to E0FFF
abbrev pub is_wide_label_character : ℕ → Bool
is_wide_label_character c =
    is_within 160 55295 c || is_within 63744 64975 c || is_within 65008 65519 c
    || (is_within 65536 983037 c && nat_lt (c % 65536) 65534 && not (is_within 917504 921599 c))

-- the characters of a label (X.660 7.5), which are the iunreserved of RFC 3987
unfoldable pub is_label_character : ℕ → Bool
is_label_character c =
    is_ascii_alphanumeric c || list_any (λ d. c == d) (codes "-._~") || is_wide_label_character c

-- a number with a 0 in front (X.680 12.25)
abbrev pub is_padded_decimal : List ℕ → Bool
is_padded_decimal (first ∷ next ∷ more) = (first == digit 0) && list_all is_ascii_digit (next ∷ more)
is_padded_decimal label = false

-- the UTF-8 of characters of a label
unfoldable pub are_label_characters : List ℕ → Bool
are_label_characters octets = is_utf8 octets && list_all is_label_character (chars octets)

-- a label: one or more of its characters, and no number with a 0 in front
unfoldable pub is_label : List ℕ → Bool
is_label label = nat_lt 0 (length label) && not (is_padded_decimal label) && are_label_characters label

-- labels with a solidus between each two
unfoldable pub are_labels : List ℕ → Bool
are_labels octets = list_all is_label (slice_split (λ octet. octet == byte "/") octets)

abbrev pub is_iri : List ℕ → Bool
is_iri [] = false
is_iri (first ∷ labels) = (first == byte "/") && are_labels labels
