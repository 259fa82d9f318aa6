-- Contents octets with more octets than their value takes.
use Rattle.std.specs.Prelude.{◌==◌, ◌&&◌, ◌||◌, ℕ, ◌-◌, nat_lt, Bool, true, false, not, if◌then◌else◌, List, [], ◌∷◌, get_or, length}
use Rattle.std.specs.Str.{byte}
use Rattle.asn1_numbers.specs.Octets.{digit}

-- an INTEGER without octets (8.3.1), or whose first nine bits are alike (8.3.2)
abbrev pub is_padded_number : List ℕ → Bool
is_padded_number [] = true
is_padded_number (first ∷ []) = false
is_padded_number (first ∷ next ∷ more) = if nat_lt next 128 then first == 0 else (first == 255)

-- the last of the octets, 0 of none
abbrev pub last_octet : List ℕ → ℕ
last_octet octets = get_or octets (length octets - 1) 0

-- an octet 80 stands where a subidentifier begins (8.19.2): in front, or behind an octet below 80
abbrev pub is_padded_from : Bool → List ℕ → Bool
is_padded_from begins [] = false
is_padded_from begins (octet ∷ octets) = (begins && (octet == 128)) || is_padded_from (nat_lt octet 128) octets

abbrev pub has_padded_component : List ℕ → Bool
has_padded_component octets = is_padded_from true octets

-- a GeneralizedTime of the form YYYYMMDDhhmmssZ with a fraction, before which no point stands (11.7.4), or that ends in
-- 0, or has no digit (11.7.3)
abbrev pub has_padded_fraction : List ℕ → Bool
has_padded_fraction octets =
    nat_lt 15 (length octets)
    && (not (get_or octets 14 0 == byte ".") || (get_or octets (length octets - 2) 0 == digit 0)
    || (get_or octets (length octets - 2) 0 == byte "."))
