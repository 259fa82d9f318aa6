-- A string of ASCII is its own text, for `unknown_values::ascii_text`.
use Rattle.std.proofs.Common.{◌≡◌, ◌<◌, ◌==◌, ◌||◌, ◌&&◌, ℕ, Bool, true, false, not, List, [], ◌∷◌, inl, inr, arith}
use Rattle.std.specs.Prelude.{nat_le, nat_lt, if◌then◌else◌}
use Rattle.std.specs.List.{list_all}
use Rattle.std.specs.Str.{IsAscii}
use Rattle.std.proofs.lemmas.Bool.{and_parts, or_cases}
use Rattle.std.proofs.lemmas.Bool.Decides.{nat_tests}
use Rattle.std.proofs.lemmas.Str.Ascii.{IsAscii-cons, IsAscii-nil}
use Rattle.asn1_headers.specs.declared.tags.TheConstants.{NUMERIC_STRING, VISIBLE_STRING}
use Rattle.asn1_blocks.specs.UnknownValues.{is_ascii_character, is_general, is_numeric, is_visible}

-- a digit or the space is below 128
is_numeric-lt : (c : ℕ) → is_numeric c ≡ true → c < 128
is_numeric-lt c e = elim (or_cases (c == 32) (nat_le 48 c && nat_le c 57) e) [
  | inl a ↦ grind (arith, nat_tests, a)
  | inr a ↦ let p = and_parts (nat_le 48 c) (nat_le c 57) a in grind (arith, nat_tests, p.1)
]

-- a printing character of ASCII or the space is below 128
is_visible-lt : (c : ℕ) → is_visible c ≡ true → c < 128
is_visible-lt c e = let p = and_parts (nat_le 32 c) (nat_le c 126) e in grind (arith, nat_tests, p.1)

-- a character that is allowed in a GeneralString is below 128
is_general-lt : (c : ℕ) → is_general c ≡ true → c < 128
is_general-lt c e =
    let p = and_parts (nat_lt c 128) (not ((c == 14) || (c == 15) || (c == 27))) e in
    grind (arith, nat_tests, p.0)

-- what is true in each branch is true of a choice of three
if-cases : (a b : Bool) (x y z : Bool) (P : Type 0) → (if a then x else if b then y else z) ≡ true → (x ≡ true → P) →
    (y ≡ true → P) → (z ≡ true → P) → P
if-cases true b x y z P e f g h = f e
if-cases false true x y z P e f g h = g e
if-cases false false x y z P e f g h = h e

-- the characters of each kind of ASCII text are below 128
is_ascii_character-lt : (tag c : ℕ) → is_ascii_character tag c ≡ true → c < 128
is_ascii_character-lt tag c e =
    if-cases (tag == NUMERIC_STRING) (tag == VISIBLE_STRING) (is_numeric c) (is_visible c) (is_general c) (c < 128) e
    (is_numeric-lt c) (is_visible-lt c) (is_general-lt c)

-- a text of allowed characters is ASCII
pub IsAscii-characters : (tag : ℕ) (cs : List ℕ) → list_all (is_ascii_character tag) cs ≡ true → IsAscii cs
IsAscii-characters tag [] e = IsAscii-nil
IsAscii-characters tag (c ∷ cs) e =
    let p = and_parts (is_ascii_character tag c) (list_all (is_ascii_character tag) cs) e in
    IsAscii-cons c cs (is_ascii_character-lt tag c p.0) (IsAscii-characters tag cs p.1)
