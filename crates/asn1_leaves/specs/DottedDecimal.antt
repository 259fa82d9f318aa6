-- Object identifiers as texts, in ASCII: 1.2.840.
use Rattle.std.specs.Prelude.{◌≡◌, ◌≢◌, ℕ, List, [], map}
use Rattle.std.specs.List.{join_with_byte}
use Rattle.std.specs.Str.{byte}
use Rattle.asn1_numbers.specs.Decimal.{natural_numeral}

-- numbers in decimal, with a point between two of them
abbrev pub dotted_decimal : List ℕ → List ℕ
dotted_decimal ns = join_with_byte (byte ".") (map natural_numeral ns)

-- the text is that of these numbers, at least one
abbrev pub IsDottedDecimal : List ℕ → List ℕ → Type 0
IsDottedDecimal text ns = (text ≡ dotted_decimal ns) × (ns ≢ [])
