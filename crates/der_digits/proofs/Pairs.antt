-- Hex digits that are decoded in pairs, for `hex_decoder`.
use Rattle.std.proofs.Common.{◌≡◌, ◌+◌, ◌*◌, ℕ, suc, true, List, [], ◌∷◌, ◌++◌, ap, arith, length, refl, sym}
use Rattle.std.specs.Prelude.{None, Option, Some, is_some, unwrap_or}
use Rattle.std.specs.Char.{is_ascii_hexdigit}
use Rattle.std.specs.List.{list_all}
use Rattle.std.specs.Option.{option_and_then, option_map}
use Rattle.std.proofs.lemmas.Bool.Decides.{nat_tests}
use Rattle.hex.specs.Hex.{hex_digit_value, is_hex_digit}
use Rattle.der_digits.specs.Spelled.{octet_of, octets_of_pairs}

-- an octet before those of digits stays before them where more digits follow
append-octet :
    (o : Option ℕ) (first : Option (List ℕ)) (rest all : Option (List ℕ)) (octets : List ℕ) →
    option_and_then (λ octet. option_map (λ more. octet ∷ more) first) o ≡ Some octets →
    ((own : List ℕ) → first ≡ Some own → all ≡ option_map (λ more. own ++ more) rest) →
    option_and_then (λ octet. option_map (λ more. octet ∷ more) all) o ≡ option_map (λ more. octets ++ more) rest
append-octet None first rest all octets e h = cc e
append-octet (Some x) None rest all octets e h = cc e
append-octet (Some x) (Some own) (Some more) all octets e h =
    let is : x ∷ own ≡ octets = ap (λ o. unwrap_or o []) e in
    rw (h own refl, ← is) refl
append-octet (Some x) (Some own) None all octets e h = rw (h own refl) refl

-- no octets before others, if there are others, change nothing
option_map-nil : (o : Option (List ℕ)) → o ≡ option_map (λ others. [] ++ others) o
option_map-nil (Some x) = refl
option_map-nil None = refl

-- digits behind those that spell octets spell more octets behind these
pub octets_of_pairs-append :
    (digits more octets : List ℕ) → octets_of_pairs digits ≡ Some octets →
    octets_of_pairs (digits ++ more) ≡ option_map (λ others. octets ++ others) (octets_of_pairs more)
octets_of_pairs-append [] more octets e =
    let none : [] ≡ octets = ap (λ o. unwrap_or o []) e in
    rw (← none) (option_map-nil (octets_of_pairs more))
octets_of_pairs-append (a ∷ []) more octets e = cc e
octets_of_pairs-append (a ∷ b ∷ digits) more octets e =
    append-octet (octet_of a b) (octets_of_pairs digits) (octets_of_pairs more)
    (octets_of_pairs (digits ++ more)) octets e (octets_of_pairs-append digits more)

-- a character that has a value as a hex digit is a hex digit of ASCII
pub is_ascii_hexdigit-hex : (c : ℕ) → is_hex_digit c ≡ true → is_ascii_hexdigit c ≡ true
is_ascii_hexdigit-hex c h = grind (arith, nat_tests)

-- an octet of two digits has a value of each
digits-of_octet :
    (high low : Option ℕ) → is_some (option_and_then (λ h. option_map (λ l. h * 16 + l) low) high) ≡ true →
    (is_some high ≡ true) × (is_some low ≡ true)
digits-of_octet (Some h) (Some l) e = (refl, refl)
digits-of_octet (Some h) None e = cc e
digits-of_octet None low e = cc e

-- octets of which the first is of a pair have it before those of the digits behind the pair
octets-behind :
    (o : Option ℕ) (more : Option (List ℕ)) (octets : List ℕ) →
    option_and_then (λ octet. option_map (λ others. octet ∷ others) more) o ≡ Some octets →
    (is_some o ≡ true) × ((others : List ℕ) × (more ≡ Some others) × (length octets ≡ suc (length others)))
octets-behind (Some x) (Some others) octets e =
    (refl, (others, refl, sym (ap (λ o. length (unwrap_or o [])) e)))
octets-behind (Some x) None octets e = cc e
octets-behind None more octets e = cc e

-- symbols that spell octets in pairs are all hex digits
pub list_all-pairs :
    (digits octets : List ℕ) → octets_of_pairs digits ≡ Some octets → list_all is_ascii_hexdigit digits ≡ true
list_all-pairs [] octets e = refl
list_all-pairs (a ∷ []) octets e = cc e
list_all-pairs (a ∷ b ∷ digits) octets e =
    let (is, (others, more, size)) = octets-behind (octet_of a b) (octets_of_pairs digits) octets e in
    let (high, low) = digits-of_octet (hex_digit_value a) (hex_digit_value b) is in
    rw (is_ascii_hexdigit-hex a high, is_ascii_hexdigit-hex b low, list_all-pairs digits others more) refl

-- digits that spell no octets are none
pub none-spelled :
    (digits octets : List ℕ) → octets_of_pairs digits ≡ Some octets → length octets ≡ 0 → digits ≡ []
none-spelled [] octets e none = refl
none-spelled (a ∷ []) octets e none = cc e
none-spelled (a ∷ b ∷ digits) octets e none =
    let (is, (others, more, size)) = octets-behind (octet_of a b) (octets_of_pairs digits) octets e in
    absurd (omega (arith, size, none))
