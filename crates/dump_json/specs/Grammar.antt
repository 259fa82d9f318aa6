-- The grammar of RFC 8259, in UTF-8 (section 8.1), but for white space around its structural characters (section 2) and
-- for fractions and exponents of numbers (section 6), which are never written. Each rule has its name there.
use Rattle.std.specs.Prelude.{◌≡◌, ◌≢◌, ◌⊎◌, ◌≤◌, ◌==◌, ◌&&◌, ◌||◌, ℕ, Bool, false, true, not, nat_le, nat_eq, List, [], ◌∷◌, ◌++◌, codes, if◌then◌else◌}
use Rattle.std.specs.Char.{encode_utf8}
use Rattle.std.specs.List.{AllByRecursion}
use Rattle.der_io.specs.Escaped.{is_shown}

abbrev pub IsDigit : ℕ → Type 0
IsDigit c = (0x30 ≤ c) × (c ≤ 0x39)

abbrev pub IsHexDigit : ℕ → Type 0
IsHexDigit c = IsDigit c ⊎ ((0x61 ≤ c) × (c ≤ 0x66))

-- section 6: [ minus ] int
pub data IsInt : List ℕ → Type 0 where
  zero : IsInt (codes "0")
  digits :
      (d : ℕ) (ds : List ℕ) → (0x31 ≤ d) → (d ≤ 0x39) → AllByRecursion IsDigit ds →
      IsInt (d ∷ ds)

pub data IsNumber : List ℕ → Type 0 where
  positive : (t : List ℕ) → IsInt t → IsNumber t
  negative : (t : List ℕ) → IsInt t → IsNumber (codes "-" ++ t)

-- section 7: %x20-21 / %x23-5B / %x5D-10FFFF. Of these, only characters that are shown are written as they are: no
-- control character beyond U+007F, and none that moves or hides text
abbrev pub IsUnescaped : ℕ → Type 0
IsUnescaped c = (0x20 ≤ c) × (c ≢ 0x22) × (c ≢ 0x5C) × (c ≤ 0x10FFFF) × (is_shown c ≡ true)

-- of one octet, unescaped
abbrev pub is_plain : ℕ → Bool
is_plain b = nat_le 0x20 b && (nat_le b 0x7E && (not (nat_eq b 0x22) && not (nat_eq b 0x5C)))

-- behind a reverse solidus: %x22 / %x5C / %x2F / %x62 / %x66 / %x6E / %x72 / %x74, or %x75 4HEXDIG
abbrev pub is_escape : ℕ → Bool
is_escape c =
    c == 0x22 || c == 0x5C || c == 0x2F || c == 0x62 || c == 0x66 || c == 0x6E || c == 0x72 || c == 0x74

pub data IsChar : List ℕ → Type 0 where
  unescaped : (c : ℕ) → IsUnescaped c → IsChar (encode_utf8 c)
  escaped : (c : ℕ) → is_escape c ≡ true → IsChar (0x5C ∷ c ∷ [])
  unit :
      (a b c d : ℕ) → IsHexDigit a → IsHexDigit b → IsHexDigit c → IsHexDigit d →
      IsChar (0x5C ∷ 0x75 ∷ a ∷ b ∷ c ∷ d ∷ [])

pub data AreChars : List ℕ → Type 0 where
  none : AreChars []
  more : (cs c : List ℕ) → AreChars cs → IsChar c → AreChars (cs ++ c)

pub data IsString : List ℕ → Type 0 where
  quoted : (cs : List ℕ) → AreChars cs → IsString (codes "\"" ++ (cs ++ codes "\""))

-- value-separator, where something stands before
abbrev pub comma_if : Bool → List ℕ
comma_if later = if later then codes "," else []

-- sections 3, 4 and 5. An object or an array up to its end is `begin-object [ member *( value-separator member ) ]` or
-- `begin-array [ value *( value-separator value ) ]`; the first argument says whether something stands in it
mutual
  pub data IsValue : List ℕ → Type 0 where
    false_name : IsValue (codes "false")
    null_name : IsValue (codes "null")
    true_name : IsValue (codes "true")
    number : (t : List ℕ) → IsNumber t → IsValue t
    string : (t : List ℕ) → IsString t → IsValue t
    object : (later : Bool) (t : List ℕ) → IsOpenObject later t → IsValue (t ++ codes "}")
    array : (later : Bool) (t : List ℕ) → IsOpenArray later t → IsValue (t ++ codes "]")

  pub data IsMember : List ℕ → Type 0 where
    member : (name v : List ℕ) → IsString name → IsValue v → IsMember (name ++ (codes ":" ++ v))

  pub data IsOpenObject : Bool → List ℕ → Type 0 where
    begin_object : IsOpenObject false (codes "{")
    with_member :
        (later : Bool) (t m : List ℕ) → IsOpenObject later t → IsMember m →
        IsOpenObject true (t ++ (comma_if later ++ m))

  pub data IsOpenArray : Bool → List ℕ → Type 0 where
    begin_array : IsOpenArray false (codes "[")
    with_item :
        (later : Bool) (t v : List ℕ) → IsOpenArray later t → IsValue v →
        IsOpenArray true (t ++ (comma_if later ++ v))
