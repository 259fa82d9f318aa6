-- What hex digits spell (RFC 4648, section 8).
use Rattle.std.specs.Prelude.{◌≡◌, ◌+◌, ◌*◌, ℕ, true, false, List, [], ◌∷◌, Option, Some, None}
use Rattle.std.specs.Char.{is_ascii_hexdigit}
use Rattle.std.specs.Option.{option_and_then, option_map}
use Rattle.hex.specs.Hex.{hex_digit_value}
use Rattle.der_digits.specs.Search.{all_of_some}
use Rattle.der_digits.specs.declared.hex_decoder.Spelling.{Spelling}
use Rattle.der_digits.specs.declared.hex_decoder.Spelling.TheVariants.{Octets, Odd, Nothing}

-- the octet that two hex digits spell
abbrev pub octet_of : ℕ → ℕ → Option ℕ
octet_of high low =
    option_and_then (λ h. option_map (λ l. h * 16 + l) (hex_digit_value low)) (hex_digit_value high)

-- the octets that hex digits spell, in pairs
abbrev pub octets_of_pairs : List ℕ → Option (List ℕ)
octets_of_pairs [] = Some []
octets_of_pairs (digit ∷ []) = None
octets_of_pairs (high ∷ low ∷ digits) =
    option_and_then (λ octet. option_map (λ octets. octet ∷ octets) (octets_of_pairs digits)) (octet_of high low)

-- the spelling is that of the symbols: their octets, or that one digit is left over, or that there are none, or not
-- digits alone
abbrev pub IsSpelling : Spelling → List ℕ → Type 0
IsSpelling (Octets octets) symbols =
    (all_of_some is_ascii_hexdigit symbols ≡ true) × (octets_of_pairs symbols ≡ Some octets.items)
IsSpelling Odd symbols = (all_of_some is_ascii_hexdigit symbols ≡ true) × (octets_of_pairs symbols ≡ None)
IsSpelling Nothing symbols = all_of_some is_ascii_hexdigit symbols ≡ false
