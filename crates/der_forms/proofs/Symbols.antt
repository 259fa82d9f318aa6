-- The symbols of base 64: no white space, hyphen or colon is among them, so that a line of them is that line again when
-- PEM is read. For `written::to_pem`.
use Rattle.std.proofs.Common.{◌≡◌, ◌==◌, ◌&&◌, ◌+◌, ◌*◌, ◌/◌, ◌%◌, ℕ, zero, suc, Bool, true, false, not, List, [], ◌∷◌, ◌++◌, refl, sym, replicate, length, slice_index, inl, inr}
use Rattle.std.specs.Char.{is_ascii_whitespace}
use Rattle.std.specs.List.{list_all, list_any}
use Rattle.std.proofs.lemmas.Bool.{and_from, and_parts, cases_Bool, cases_lt, eqb-true, false≢true, not-true}
use Rattle.std.proofs.lemmas.List.{get_or_past}
use Rattle.std.proofs.lemmas.List.Folds.{list_all-append}
use Rattle.base64.proofs.Tables.{all_below_at}
use Rattle.base64.specs.Engines.{standard}
use Rattle.base64.specs.GeneralPurpose.{encode_of}
use Rattle.base64.specs.Rfc4648.{encode_symbols, padding_len}
use Rattle.der_digits.specs.Search.{begins, without_indent}
use Rattle.der_forms.specs.Forms.{without_spaces}
use Rattle.der_io.specs.Characters.{colon, hyphen, line_feed}
use Rattle.der_io.specs.Lines.{lines_of}

-- neither white space, nor a hyphen, nor a colon
abbrev pub is_plain : ℕ → Bool
is_plain b = not (is_ascii_whitespace b) && (not (b == hyphen) && not (b == colon))

-- the 64 symbols
abbrev table : List ℕ
table = standard.encode_table

is_plain-symbol : (i : ℕ) → is_plain (slice_index table i) ≡ true
is_plain-symbol i = elim (cases_lt i 64) [
  | inl lt ↦ all_below_at (λ k. is_plain (slice_index table k)) 64 i refl lt
  | inr ge ↦ rw (get_or_past table i 0 ge) refl
]

list_all-encode_symbols :
    (p : ℕ → Bool) (t : List ℕ) → ((i : ℕ) → p (slice_index t i) ≡ true) → (m : List ℕ) →
    list_all p (encode_symbols t m) ≡ true
unfolding encode_symbols
list_all-encode_symbols p t h [] = refl
list_all-encode_symbols p t h (a ∷ []) = rw (h (a / 4), h (a % 4 * 16)) refl
list_all-encode_symbols p t h (a ∷ b ∷ []) = rw (h (a / 4), h (a % 4 * 16 + b / 16), h (b % 16 * 4)) refl
list_all-encode_symbols p t h (a ∷ b ∷ c ∷ rest) =
    rw (h (a / 4), h (a % 4 * 16 + b / 16), h (b % 16 * 4 + c / 64), h (c % 64), list_all-encode_symbols p t h rest)
    refl

list_all-replicate : (p : ℕ → Bool) (n b : ℕ) → p b ≡ true → list_all p (replicate n b) ≡ true
list_all-replicate p zero b h = refl
list_all-replicate p (suc n) b h = rw (h, list_all-replicate p n b h) refl

-- all symbols are plain
pub are_plain-encoded : (octets : List ℕ) → list_all is_plain (encode_of standard octets) ≡ true
are_plain-encoded octets =
    rw (list_all-append is_plain (encode_symbols table octets) (replicate (padding_len (length octets)) 61))
    (and_from _ _ (list_all-encode_symbols is_plain table is_plain-symbol octets)
    (list_all-replicate is_plain (padding_len (length octets)) 61 refl))

-- a line feed is not plain
is_plain-line_feed : (b : ℕ) → is_plain b ≡ true → (b == line_feed) ≡ false
is_plain-line_feed b h = elim (cases_Bool (b == line_feed)) [
  | inl is_so ↦ absurd (false≢true (rw (eqb-true b line_feed is_so) at h))
  | inr is_not ↦ is_not
]

-- no line feed stands in a line
abbrev pub is_in_line : ℕ → Bool
is_in_line b = not (b == line_feed)

-- a line up to its end is the first of all
pub lines_of-line :
    (line rest : List ℕ) → list_all is_in_line line ≡ true →
    lines_of (line ++ line_feed ∷ rest) ≡ line ∷ lines_of rest
lines_of-line [] rest h = refl
lines_of-line (b ∷ line) rest h =
    let parts = and_parts (is_in_line b) (list_all is_in_line line) h in
    rw (not-true (b == line_feed) parts.0, lines_of-line line rest parts.1) refl

pub is_in_line-plain : (line : List ℕ) → list_all is_plain line ≡ true → list_all is_in_line line ≡ true
is_in_line-plain [] h = refl
is_in_line-plain (b ∷ line) h =
    let parts = and_parts (is_plain b) (list_all is_plain line) h in
    rw (is_plain-line_feed b parts.0, is_in_line-plain line parts.1) refl

-- no white space stands in a plain line
pub without_spaces-plain : (line : List ℕ) → list_all is_plain line ≡ true → without_spaces line ≡ line
without_spaces-plain [] h = refl
without_spaces-plain (b ∷ line) h =
    let parts = and_parts (is_plain b) (list_all is_plain line) h in
    let first = and_parts (not (is_ascii_whitespace b)) (not (b == hyphen) && not (b == colon)) parts.0 in
    rw (not-true (is_ascii_whitespace b) first.0, without_spaces-plain line parts.1) refl

-- nor at its front
pub without_indent-plain : (line : List ℕ) → list_all is_plain line ≡ true → without_indent line ≡ line
without_indent-plain [] h = refl
without_indent-plain (b ∷ line) h =
    let parts = and_parts (is_plain b) (list_all is_plain line) h in
    let first = and_parts (not (is_ascii_whitespace b)) (not (b == hyphen) && not (b == colon)) parts.0 in
    rw (not-true (is_ascii_whitespace b) first.0) refl

-- no colon stands in it
pub no_colon-plain : (line : List ℕ) → list_all is_plain line ≡ true → list_any (λ b. b == colon) line ≡ false
no_colon-plain [] h = refl
no_colon-plain (b ∷ line) h =
    let parts = and_parts (is_plain b) (list_all is_plain line) h in
    let first = and_parts (not (is_ascii_whitespace b)) (not (b == hyphen) && not (b == colon)) parts.0 in
    let last = and_parts (not (b == hyphen)) (not (b == colon)) first.1 in
    rw (not-true (b == colon) last.1, no_colon-plain line parts.1) refl

-- it does not begin with words that are not plain
pub begins-plain :
    (part line : List ℕ) → list_all is_plain part ≡ false → list_all is_plain line ≡ true → begins part line ≡ false
begins-plain [] line other h = absurd (false≢true (sym other))
begins-plain (a ∷ part) [] other h = refl
begins-plain (a ∷ part) (b ∷ line) other h =
    let parts = and_parts (is_plain b) (list_all is_plain line) h in
    elim (cases_Bool (a == b)) [
      | inl same ↦
          let e : a ≡ b = eqb-true a b same in
          let later : list_all is_plain part ≡ false = rw (e, parts.0) at other in
          rw same (begins-plain part line later parts.1)
      | inr differs ↦ rw differs refl
    ]
