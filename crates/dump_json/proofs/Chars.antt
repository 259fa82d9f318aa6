-- Characters, and digits of numbers.
use Rattle.std.proofs.Common.{◌≡◌, ◌≢◌, ◌≤◌, ◌<◌, ◌+◌, ◌^◌, ℕ, zero, suc, true, List, [], ◌∷◌, get_or, map, decimal, arith, inl, inr, subst, sym}
use Rattle.std.specs.Prelude.{EachIndex}
use Rattle.std.proofs.lemmas.Bool.{and_parts}
use Rattle.std.proofs.lemmas.Str.{encode_ascii}
use Rattle.std.proofs.lemmas.Fmt.{decimal_digit, decimal-digits_of}
use Rattle.std.proofs.lemmas.Int.Digits.{all_below_base_digits_of, first_digits_of}
use Rattle.std.specs.Int.Digits.{AllBelowBase, digits_of}
use Rattle.std.specs.List.{AllByRecursion, list_all}
use Rattle.der_io.specs.Escaped.{is_shown}
use Rattle.dump_json.specs.Grammar.{AreChars, IsChar, IsDigit, IsHexDigit, IsInt, is_plain}
use Rattle.dump_json.proofs.Texts.{AreChars-append, AreChars-one}

-- a character that is shown is no control character
pub least-shown : (c : ℕ) → is_shown c ≡ true → 0x20 ≤ c
least-shown c e = grind (arith, e)

is_shown-ascii : (b : ℕ) → 0x20 ≤ b → b < 0x7F → is_shown b ≡ true
is_shown-ascii b low high = grind (arith, low, high)

-- a character of ASCII that stands for itself
pub AreChars-ascii : (b : ℕ) → 0x20 ≤ b → b < 0x7F → b ≢ 0x22 → b ≢ 0x5C → AreChars (b ∷ [])
AreChars-ascii b low high quote backslash =
    subst AreChars (encode_ascii b (omega (arith, high)))
    (AreChars-one _ (IsChar.unescaped b (low, quote, backslash, omega (arith, high), is_shown-ascii b low high)))

AreChars-plain_one : (b : ℕ) → is_plain b ≡ true → AreChars (b ∷ [])
AreChars-plain_one b e =
    AreChars-ascii b (grind (arith, e)) (grind (arith, e)) (grind (arith, e)) (grind (arith, e))

-- characters of ASCII that stand for themselves
pub AreChars-plain : (t : List ℕ) → list_all is_plain t ≡ true → AreChars t
AreChars-plain [] e = AreChars.none
AreChars-plain (b ∷ t) e =
    let (one, more) = and_parts (is_plain b) (list_all is_plain t) e in
    AreChars-append (b ∷ []) t (AreChars-plain_one b one) (AreChars-plain t more)

pub AreChars-each : (t : List ℕ) → EachIndex t (λ k. is_plain (get_or t k 0) ≡ true) → AreChars t
AreChars-each [] h = AreChars.none
AreChars-each (b ∷ t) h =
    AreChars-append (b ∷ []) t (AreChars-plain_one b (h 0 (omega arith)))
    (AreChars-each t (λ k l. h (suc k) (omega (arith, l))))

-- a hex digit
pub AreChars-digit : (b : ℕ) → IsHexDigit b → AreChars (b ∷ [])
AreChars-digit b (inl (low, high)) =
    AreChars-ascii b (omega (arith, low)) (omega (arith, high)) (omega (arith, low)) (omega (arith, high))
AreChars-digit b (inr (low, high)) =
    AreChars-ascii b (omega (arith, low)) (omega (arith, high)) (omega (arith, low)) (omega (arith, low))

-- two of them, and others
pub AreChars-pair : (b c : ℕ) → IsHexDigit b → IsHexDigit c → (t : List ℕ) → AreChars t → AreChars (b ∷ c ∷ t)
AreChars-pair b c d e t h =
    AreChars-append (b ∷ []) (c ∷ t) (AreChars-digit b d) (AreChars-append (c ∷ []) t (AreChars-digit c e) h)

AreDigits-below : (ds : List ℕ) → AllBelowBase 10 ds → AllByRecursion IsDigit (map (λ d. 48 + d) ds)
AreDigits-below [] h = h
AreDigits-below (d ∷ ds) (low, h) = ((omega arith, omega (arith, low)), AreDigits-below ds h)

IsInt-digits : (ds : List ℕ) → AllBelowBase 10 ds → 0 < get_or ds 0 0 → IsInt (map (λ d. 48 + d) ds)
IsInt-digits [] h first = absurd (omega (arith, first))
IsInt-digits (d ∷ ds) (low, h) first =
    IsInt.digits (48 + d) (map (λ e. 48 + e) ds) (omega (arith, first)) (omega (arith, low)) (AreDigits-below ds h)

-- what is printed of a number has no leading zero
pub IsInt-decimal : (n : ℕ) → n < 2 ^ 64 → IsInt (decimal n)
IsInt-decimal zero h = subst IsInt (sym (decimal_digit 0 (omega arith))) IsInt.zero
IsInt-decimal (suc n) h =
    subst IsInt (sym (decimal-digits_of (suc n) (omega arith) h))
    (IsInt-digits (digits_of 10 (suc n)) (all_below_base_digits_of 10 (suc n) (omega arith))
    (first_digits_of 10 (suc n) (omega arith) (omega arith)))
