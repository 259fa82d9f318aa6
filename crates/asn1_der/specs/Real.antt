-- Contents octets of a REAL, as DER has them (X.690 8.5, 11.3).
use Rattle.std.specs.Prelude.{◌==◌, ◌&&◌, ◌||◌, ℕ, ◌+◌, ◌%◌, nat_lt, Bool, true, false, not, if◌then◌else◌, List, [], ◌∷◌, length, take, drop}
use Rattle.std.specs.Char.{is_ascii_digit}
use Rattle.std.specs.List.{list_all, prefix_len}
use Rattle.std.specs.Str.{byte}
use Rattle.asn1_numbers.specs.Octets.{digit}
use Rattle.asn1_der.specs.Padding.{is_padded_number, last_octet}

-- a mantissa that is odd, in the fewest octets (11.3.1). A value of 0 has no mantissa (8.5.2, 8.5.3)
abbrev pub is_odd_mantissa : List ℕ → Bool
is_odd_mantissa [] = false
is_odd_mantissa (first ∷ more) = not (first == 0) && (last_octet (first ∷ more) % 2 == 1)

-- an exponent of so many octets, none of them spare (8.5.7.4, 11.3.1), and then the mantissa (8.5.7.5)
abbrev pub is_scaled : ℕ → List ℕ → Bool
is_scaled size octets =
    nat_lt size (length octets) && not (is_padded_number (take size octets)) && is_odd_mantissa (drop size octets)

-- the octets behind a first octet whose last two bits are these (8.5.7.4): they tell the number of the exponent's
-- octets, 1 to 3, or that an octet with the number precedes them, which is then above 3 (11.3.1)
abbrev pub is_binary : ℕ → List ℕ → Bool
is_binary form [] = false
is_binary form (size ∷ octets) =
    if form == 3 then nat_lt 3 size && is_scaled size octets else is_scaled (form + 1) (size ∷ octets)

-- how many digits stand at the front, these digits, and what stands behind them
abbrev pub digit_count : List ℕ → ℕ
digit_count text = prefix_len is_ascii_digit text

abbrev pub digits_of_front : List ℕ → List ℕ
digits_of_front text = take (digit_count text) text

abbrev pub behind_digits : List ℕ → List ℕ
behind_digits text = drop (digit_count text) text

-- what stands behind a minus sign, where the text begins with one
abbrev pub behind_minus : List ℕ → List ℕ
behind_minus [] = []
behind_minus (first ∷ more) = if first == byte "-" then more else first ∷ more

-- digits, the first of which is not 0
abbrev pub is_unpadded : List ℕ → Bool
is_unpadded [] = false
is_unpadded (first ∷ more) = not (first == digit 0) && list_all is_ascii_digit (first ∷ more)

-- the exponent is +0, or has no plus sign and does not begin with 0 (11.3.2.6)
abbrev pub is_decimal_exponent : List ℕ → Bool
is_decimal_exponent (first ∷ next ∷ []) =
    ((first == byte "+") && (next == digit 0)) || is_unpadded (behind_minus (first ∷ next ∷ []))
is_decimal_exponent text = is_unpadded (behind_minus text)

-- behind the digits stand a full stop and an E (11.3.2.5), and the exponent
abbrev pub ends_in_exponent : List ℕ → Bool
ends_in_exponent (point ∷ mark ∷ exponent) =
    (point == byte ".") && (mark == byte "E") && is_decimal_exponent exponent
ends_in_exponent text = false

-- a mantissa neither whose first nor whose last digit is 0 (11.3.2.4)
abbrev pub is_decimal_mantissa : List ℕ → Bool
is_decimal_mantissa digits = is_unpadded digits && not (last_octet digits == digit 0)

-- the form NR3 of ISO 6093 without spaces and plus signs (11.3.2.1 to 11.3.2.3)
abbrev pub is_decimal : List ℕ → Bool
is_decimal text =
    let number = behind_minus text in
    is_decimal_mantissa (digits_of_front number) && ends_in_exponent (behind_digits number)

-- 0 has no octets (8.5.2). Else the first octet tells the encoding (8.5.6): binary with the base 2 and no scaling
-- (8.5.7, 11.3.1), decimal (8.5.8, 11.3.2), or one of the four special values, alone (8.5.9)
abbrev pub is_real : List ℕ → Bool
is_real [] = true
is_real (first ∷ octets) =
    if nat_lt 127 first then nat_lt (first % 64) 4 && is_binary (first % 4) octets
    else if first == 3 then is_decimal octets
    else nat_lt 63 first && nat_lt first 68 && (length octets == 0)
