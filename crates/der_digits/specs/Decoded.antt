-- What a decoder of hex digits has read. Private contracts alone name these.
use Rattle.std.specs.Prelude.{◌≡◌, ◌++◌, ◌∷◌, ℕ, Bool, true, false, List, [], Option, Some, None}
use Rattle.std.specs.Char.{is_ascii_hexdigit}
use Rattle.std.specs.List.{list_all}
use Rattle.der_digits.specs.Spelled.{octets_of_pairs}
use Rattle.der_digits.specs.declared.hex_decoder.HexDecoder.{HexDecoder}
use Rattle.hex.specs.Hex.{hex_digit_value}

-- the digits spell the octets, and a last digit without a second one has this value
abbrev pub ArePairs : List ℕ → Option ℕ → List ℕ → Type 0
ArePairs octets None digits = octets_of_pairs digits ≡ Some octets
ArePairs octets (Some value) digits =
    (pairs : List ℕ) × (digit : ℕ) × (digits ≡ pairs ++ digit ∷ []) × (hex_digit_value digit ≡ Some value)
    × (octets_of_pairs pairs ≡ Some octets)

-- the decoder has read these digits
abbrev pub HasRead : HexDecoder → List ℕ → Type 0
HasRead decoder digits = ArePairs decoder.octets.items decoder.high digits

-- the decoder has read these symbols, or one of them is no digit
abbrev pub IsRead : Bool → HexDecoder → List ℕ → Type 0
IsRead true decoder symbols = HasRead decoder symbols
IsRead false decoder symbols = list_all is_ascii_hexdigit symbols ≡ false
