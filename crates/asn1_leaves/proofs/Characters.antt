-- Characters of one octet, and the fault of octets that are no UTF-8, for `contents::text`,
-- `contents::generalized_time::fault` and `simple_asn1_c`.
use Rattle.std.proofs.Common.{◌≡◌, ◌↔◌, ℕ, ◌+◌, ◌<◌, ◌≤◌, ◌==◌, ◌||◌, true, List, [], ◌∷◌, Option, Some, None, length, get_or, drop, inl, inr, refl, sym, ap, ◌∙◌, arith}
use Rattle.std.specs.Prelude.{nat_lt, nat_le, All, IsAscii, IsUtf8, codes, encode_utf8_all, if◌then◌else◌}
use Rattle.std.specs.Char.{is_ascii_alphanumeric}
use Rattle.std.specs.Int.{is_in_range}
use Rattle.std.specs.List.{list_all, list_any}
use Rattle.std.specs.Str.{all_scalars, chars}
use Rattle.std.specs.Str.Lossy.{utf8_error_len, utf8_valid_len}
use Rattle.std.proofs.Math.Utf8.{low_scalar}
use Rattle.std.proofs.lemmas.Bool.{cases_Bool, cases_lt, and_parts, and_from, or_cases}
use Rattle.std.proofs.lemmas.Bool.Decides.{nat_tests}
use Rattle.std.proofs.lemmas.Grind.{common_steps}
use Rattle.std.proofs.lemmas.List.{at_drop_more}
use Rattle.std.proofs.lemmas.List.Elements.{All-head, All-tail, All-weaker}
use Rattle.std.proofs.lemmas.Str.{chars-IsAscii, IsUtf8-from_ascii, encodes-chars}
use Rattle.std.proofs.lemmas.Str.Ascii.{IsAscii-nil, IsAscii-cons, All-from_ascii}
use Rattle.asn1_headers.specs.declared.error.ASN1EncodeErr.TheVariants.{CharacterTooLarge}
use Rattle.asn1_headers.specs.Fault.{utf8_failure, utf8_fault}
use Rattle.asn1_leaves.specs.Contents.Text.{is_printable, octet_write_fault}

-- what is said of octets that are no UTF-8 is their fault
pub utf8_failure-fault :
    (octets : List ℕ) (n : ℕ) (size : Option ℕ) → n ≡ utf8_valid_len octets → size ≡ utf8_error_len (drop n octets)
    → utf8_failure n size ≡ utf8_fault octets
utf8_failure-fault octets n size p q =
    ap (utf8_failure n) q ∙ ap (λ k. utf8_failure k (utf8_error_len (drop k octets))) p

-- the numbers of octets are characters
pub all_scalars-octets : (cs : List ℕ) → All (λ b. b < 256) cs → all_scalars cs ≡ true
all_scalars-octets [] all = refl
all_scalars-octets (c ∷ cs) all =
    let h : c < 256 = All-head (λ b. b < 256) c cs all in
    and_from _ _ (low_scalar c (omega arith)) (all_scalars-octets cs (All-tail (λ b. b < 256) c cs all))

-- a character that is one of some, all below 128, is below 128
list_any-lt : (c : ℕ) (ds : List ℕ) → list_all (λ d. nat_lt d 128) ds ≡ true → list_any (λ d. c == d) ds ≡ true →
    c < 128
list_any-lt c [] all e = cc
list_any-lt c (d ∷ ds) all e =
    let p = and_parts (nat_lt d 128) (list_all (λ d. nat_lt d 128) ds) all in
    elim (or_cases (c == d) (list_any (λ d. c == d) ds) e) [
      | inl here ↦ grind (arith, nat_tests, p.0)
      | inr later ↦ list_any-lt c ds p.1 later
    ]

-- a character of a PrintableString is ASCII
pub is_printable-lt : (c : ℕ) → is_printable c ≡ true → c < 128
is_printable-lt c e = elim (or_cases (is_ascii_alphanumeric c) (list_any (λ d. c == d) (codes " '()+,-./:=?")) e) [
  | inr a ↦ list_any-lt c (codes " '()+,-./:=?") refl a
  | inl a ↦ elim (or_cases (is_in_range 48 57 c || is_in_range 65 90 c) (is_in_range 97 122 c) a) [
    | inr b ↦ let p = and_parts (nat_le 97 c) (nat_le c 122) b in grind (arith, nat_tests, p.1)
    | inl b ↦ elim (or_cases (is_in_range 48 57 c) (is_in_range 65 90 c) b) [
      | inl d ↦ let p = and_parts (nat_le 48 c) (nat_le c 57) d in grind (arith, nat_tests, p.1)
      | inr d ↦ let p = and_parts (nat_le 65 c) (nat_le c 90) d in grind (arith, nat_tests, p.1)
    ]
  ]
]

-- characters of a PrintableString are ASCII
pub IsAscii-printable : (cs : List ℕ) → list_all is_printable cs ≡ true → IsAscii cs
IsAscii-printable [] e = IsAscii-nil
IsAscii-printable (c ∷ cs) e =
    let p = and_parts (is_printable c) (list_all is_printable cs) e in
    IsAscii-cons c cs (is_printable-lt c p.0) (IsAscii-printable cs p.1)

-- a character past 255 has no octet
pub octet_write_fault-large : (c : ℕ) (cs : List ℕ) → 256 ≤ c → octet_write_fault (c ∷ cs) ≡ Some CharacterTooLarge
octet_write_fault-large c cs h = grind (arith, nat_tests, h)

-- a character below 256 leaves the fault to the characters after it
pub octet_write_fault-octet : (c : ℕ) (cs : List ℕ) → c < 256 → octet_write_fault (c ∷ cs) ≡ octet_write_fault cs
octet_write_fault-octet c cs h = grind (arith, nat_tests, h)

-- where characters can be written, the first one is below 256, and the rest can be written
pub octet_write_fault-none_parts : (c : ℕ) (cs : List ℕ) → octet_write_fault (c ∷ cs) ≡ None →
    (c < 256) × (octet_write_fault cs ≡ None)
octet_write_fault-none_parts c cs e = elim (cases_lt c 256) [
  | inl lt ↦ (lt, sym (octet_write_fault-octet c cs lt) ∙ e)
  | inr ge ↦ let f : None ≡ Some CharacterTooLarge = sym e ∙ octet_write_fault-large c cs ge in cc
]

-- the fault of characters from a place on is that of the character there and of those after it
pub octet_write_fault-drop : (cs : List ℕ) (n c : ℕ) → (n < length cs) × (c ≡ get_or cs n c)
    → octet_write_fault (drop n cs) ≡ octet_write_fault (c ∷ drop (n + 1) cs)
octet_write_fault-drop cs n c h = at_drop_more octet_write_fault cs n c h.0
    ∙ ap (λ x. octet_write_fault (x ∷ drop (n + 1) cs)) (sym h.1)

-- characters that are octets fit an octet
list_all-octets : (cs : List ℕ) → All (λ b. b < 256) cs → list_all (λ c. nat_lt c 256) cs ≡ true
list_all-octets [] all = refl
list_all-octets (c ∷ cs) all =
    let h : c < 256 = All-head (λ b. b < 256) c cs all in
    let t = list_all-octets cs (All-tail (λ b. b < 256) c cs all) in
    grind (arith, common_steps, h, t)

-- characters that are octets can be written
pub octet_write_fault-octets : (cs : List ℕ) → All (λ b. b < 256) cs → octet_write_fault cs ≡ None
octet_write_fault-octets cs all = let e = list_all-octets cs all in rw e refl

-- all characters of ASCII can be written
pub octet_write_fault-ascii : (cs : List ℕ) → IsAscii cs → octet_write_fault cs ≡ None
octet_write_fault-ascii cs a =
    octet_write_fault-octets cs (All-weaker (λ b. b < 128) (λ b. b < 256) (λ b h. omega arith) cs (All-from_ascii cs a))

-- where characters have no fault, all of them fit an octet
pub list_all-writable : (cs : List ℕ) → octet_write_fault cs ≡ None → list_all (λ c. nat_lt c 256) cs ≡ true
list_all-writable cs e = elim (cases_Bool (list_all (λ c. nat_lt c 256) cs)) [
  | inl fit ↦ fit
  | inr not ↦ let f : Some CharacterTooLarge ≡ None =
      sym (ap (λ b. if b then None else Some CharacterTooLarge) not) ∙ e in cc
]

-- characters of a PrintableString fit an octet
pub octet_write_fault-printable : (cs : List ℕ) → list_all is_printable cs ≡ true → octet_write_fault cs ≡ None
octet_write_fault-printable [] e = refl
octet_write_fault-printable (c ∷ cs) e =
    let p = and_parts (is_printable c) (list_all is_printable cs) e in
    let h = is_printable-lt c p.0 in
    octet_write_fault-octet c cs (omega (arith, h)) ∙ octet_write_fault-printable cs p.1

-- the octets of a text are characters of a PrintableString exactly if its characters are
pub list_all-is_printable-chars : (bs : List ℕ) → IsUtf8 bs →
    (list_all is_printable bs ≡ true) ↔ (list_all is_printable (chars bs) ≡ true)
list_all-is_printable-chars bs u =
    let back : list_all is_printable (chars bs) ≡ true → list_all is_printable bs ≡ true = λ q.
    let a = IsAscii-printable (chars bs) q in
    let e : encode_utf8_all (chars bs) ≡ chars bs = ap encode_utf8_all (sym (chars-IsAscii (chars bs) a)) ∙
    encodes-chars (chars bs) (IsUtf8-from_ascii (chars bs) a) in
    ap (list_all is_printable) (sym (encodes-chars bs u) ∙ e) ∙ q in
    (λ p. ap (list_all is_printable) (chars-IsAscii bs (IsAscii-printable bs p)) ∙ p, back)
