-- What digits spell that a decoder has read, for `hex_decoder` and `hex_text`.
use Rattle.std.proofs.Common.{◌≡◌, ◌∙◌, ◌+◌, ◌*◌, ℕ, true, false, List, [], ◌∷◌, ◌++◌, ap, append_assoc, arith, length, refl, sym}
use Rattle.std.specs.Prelude.{None, Some, unwrap_or}
use Rattle.std.specs.Char.{is_ascii_hexdigit}
use Rattle.std.specs.List.{list_all}
use Rattle.std.specs.Option.{option_map}
use Rattle.std.proofs.lemmas.List.Folds.{list_all-append}
use Rattle.hex.specs.Hex.{hex_digit_value}
use Rattle.der_digits.proofs.Pairs.{is_ascii_hexdigit-hex, list_all-pairs, none-spelled, octets_of_pairs-append}
use Rattle.der_digits.specs.Decoded.{ArePairs}
use Rattle.der_digits.specs.Spelled.{octets_of_pairs}
use Rattle.der_digits.specs.Search.{all_of_some}

-- with the second digit of a pair one octet more is spelled
pub ArePairs-second :
    (octets digits : List ℕ) (high symbol value : ℕ) → ArePairs octets (Some high) digits →
    hex_digit_value symbol ≡ Some value →
    ArePairs (octets ++ (16 * high + value) ∷ []) None (digits ++ symbol ∷ [])
ArePairs-second octets digits high symbol value (pairs, digit, e, first, read) second =
    let swapped : high * 16 + value ≡ 16 * high + value = omega arith in
    let pair : octets_of_pairs (digit ∷ symbol ∷ []) ≡ Some ((16 * high + value) ∷ []) =
    rw (first, second) (ap (λ n. Some (n ∷ [])) swapped) in
    rw e (ap (λ z. octets_of_pairs z) (append_assoc pairs (digit ∷ []) (symbol ∷ []))
    ∙ octets_of_pairs-append pairs (digit ∷ symbol ∷ []) octets read
    ∙ ap (λ z. option_map (λ others. octets ++ others) z) pair)

-- digits that spell octets, of which there are some, are all digits
pub all-spelled :
    (digits octets : List ℕ) → octets_of_pairs digits ≡ Some octets → (length octets ≡ 0 → ⊥) →
    all_of_some is_ascii_hexdigit digits ≡ true
all-spelled [] octets e some = absurd (some (sym (ap (λ o. length (unwrap_or o [])) e)))
all-spelled (c ∷ digits) octets e some = list_all-pairs (c ∷ digits) octets e

-- digits that spell no octets do not pass the test of one digit at least
pub none-of_some :
    (digits octets : List ℕ) → octets_of_pairs digits ≡ Some octets → length octets ≡ 0 →
    all_of_some is_ascii_hexdigit digits ≡ false
none-of_some digits octets e none = ap (all_of_some is_ascii_hexdigit) (none-spelled digits octets e none)

-- digits with a digit behind them are all digits
all-behind :
    (digits : List ℕ) (digit : ℕ) → list_all is_ascii_hexdigit digits ≡ true → is_ascii_hexdigit digit ≡ true →
    all_of_some is_ascii_hexdigit (digits ++ digit ∷ []) ≡ true
all-behind [] digit h last = rw last refl
all-behind (c ∷ digits) digit h last = list_all-append is_ascii_hexdigit (c ∷ digits) (digit ∷ []) ∙ rw (h, last) refl

-- a digit behind pairs is left over
pub odd-spelled :
    (octets digits : List ℕ) (value : ℕ) → ArePairs octets (Some value) digits →
    (all_of_some is_ascii_hexdigit digits ≡ true) × (octets_of_pairs digits ≡ None)
odd-spelled octets digits value (pairs, digit, e, is, read) = (
  rw e (all-behind pairs digit (list_all-pairs pairs octets read) (is_ascii_hexdigit-hex digit (rw is refl))),
  rw e (octets_of_pairs-append pairs (digit ∷ []) octets read),
)

-- symbols of which one is no digit are not all digits
all_of_some-not_hex :
    (symbols : List ℕ) → list_all is_ascii_hexdigit symbols ≡ false → all_of_some is_ascii_hexdigit symbols ≡ false
all_of_some-not_hex [] h = refl
all_of_some-not_hex (c ∷ symbols) h = h

-- symbols of a text, of which those up to some place are not all digits, are not all digits
pub not_read :
    (before part later all : List ℕ) → list_all is_ascii_hexdigit (before ++ part) ≡ false →
    before ++ (part ++ later) ≡ all → all_of_some is_ascii_hexdigit all ≡ false
not_read before part later all wrong e =
    all_of_some-not_hex all (ap (λ z. list_all is_ascii_hexdigit z) (sym (append_assoc before part later ∙ e))
    ∙ list_all-append is_ascii_hexdigit (before ++ part) later ∙ rw wrong refl)
