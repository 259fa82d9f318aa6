-- Texts of object identifiers and of strings, for the calls that put values.
use Rattle.std.proofs.Common.{◌≡◌, ℕ, ◌<◌, true, List, [], ◌∷◌, refl, sym, ap, subst, ◌∙◌, lit<, arith}
use Rattle.std.specs.Prelude.{IsAscii, IsUtf8, encode_utf8_all, All}
use Rattle.std.specs.Char.{is_ascii}
use Rattle.std.specs.List.{list_all}
use Rattle.std.specs.Str.{chars}
use Rattle.std.proofs.lemmas.Bool.{and_from}
use Rattle.std.proofs.lemmas.Bool.Decides.{nat_tests}
use Rattle.std.proofs.lemmas.Fmt.{IsAscii-from_digits}
use Rattle.std.proofs.lemmas.List.Elements.{All-head, All-tail}
use Rattle.std.proofs.lemmas.Str.{IsAscii-append, IsUtf8-from_ascii, chars-IsAscii, encodes-chars}
use Rattle.std.proofs.lemmas.Str.Ascii.{All-from_ascii, IsAscii-cons, IsAscii-nil}
use Rattle.asn1_numbers.proofs.ReadNumerals.{AllDigits-natural_numeral}
use Rattle.asn1_numbers.specs.Decimal.{natural_numeral}
use Rattle.asn1_leaves.proofs.Characters.{IsAscii-printable, list_all-is_printable-chars}
use Rattle.asn1_leaves.specs.Contents.Text.{text_contents}
use Rattle.asn1_leaves.specs.DottedDecimal.{IsDottedDecimal, dotted_decimal}
use Rattle.asn1_leaves.specs.declared.contents.text.TextForm.{TextForm}
use Rattle.asn1_leaves.specs.declared.contents.text.TextForm.TheVariants.{Utf8, Printable, Octets}
use Rattle.asn1_records.specs.Puts.{AreAllowed}
use Rattle.asn1_leaves.proofs.Leaves.GeneralizedTime.{IsAscii-list_all}

-- numerals are ASCII
IsAscii-numeral : (n : ℕ) → IsAscii (natural_numeral n)
IsAscii-numeral n = IsAscii-from_digits (natural_numeral n) (AllDigits-natural_numeral n)

-- a text that is a numeral is UTF-8
pub IsUtf8-numeral : (text : List ℕ) (n : ℕ) → text ≡ natural_numeral n → IsUtf8 text
IsUtf8-numeral text n e = subst IsUtf8 (sym e) (IsUtf8-from_ascii (natural_numeral n) (IsAscii-numeral n))

-- components as text are ASCII
IsAscii-dotted_decimal : (ns : List ℕ) → IsAscii (dotted_decimal ns)
IsAscii-dotted_decimal [] = IsAscii-nil
IsAscii-dotted_decimal (n ∷ []) = IsAscii-numeral n
IsAscii-dotted_decimal (n ∷ m ∷ ns) =
    IsAscii-append (natural_numeral n) (46 ∷ dotted_decimal (m ∷ ns)) (IsAscii-numeral n)
    (IsAscii-cons 46 (dotted_decimal (m ∷ ns)) (lit< tt) (IsAscii-dotted_decimal (m ∷ ns)))

-- a text of components is UTF-8
pub IsUtf8-dotted_decimal : (text ns : List ℕ) → IsDottedDecimal text ns → IsUtf8 text
IsUtf8-dotted_decimal text ns dotted =
    subst IsUtf8 (sym dotted.0) (IsUtf8-from_ascii (dotted_decimal ns) (IsAscii-dotted_decimal ns))

-- octets below 128 are found to be ASCII
list_all-is_ascii : (cs : List ℕ) → All (λ b. b < 128) cs → list_all is_ascii cs ≡ true
list_all-is_ascii [] all = refl
list_all-is_ascii (c ∷ cs) all =
    let h : c < 128 = All-head (λ b. b < 128) c cs all in
    and_from (is_ascii c) (list_all is_ascii cs) (grind (arith, nat_tests, h))
    (list_all-is_ascii cs (All-tail (λ b. b < 128) c cs all))

-- a text whose characters are ASCII is ASCII
pub IsAscii-chars : (text : List ℕ) → IsUtf8 text → list_all is_ascii (chars text) ≡ true → IsAscii text
IsAscii-chars text u e =
    let a = IsAscii-list_all (chars text) e in
    let same : encode_utf8_all (chars text) ≡ chars text =
    ap encode_utf8_all (sym (chars-IsAscii (chars text) a))
    ∙ encodes-chars (chars text) (IsUtf8-from_ascii (chars text) a) in
    subst IsAscii (sym same ∙ encodes-chars text u) a

-- the characters of an ASCII text are found to be ASCII
pub list_all-is_ascii_chars : (text : List ℕ) → IsAscii text → list_all is_ascii (chars text) ≡ true
list_all-is_ascii_chars text a =
    ap (list_all is_ascii) (chars-IsAscii text a) ∙ list_all-is_ascii text (All-from_ascii text a)

-- the contents octets of allowed characters are their UTF-8
pub text_contents-allowed : (form : TextForm) (text : List ℕ) → IsUtf8 text → AreAllowed form (chars text) →
    text_contents form (chars text) ≡ text
text_contents-allowed Utf8 text u a = encodes-chars text u
text_contents-allowed Printable text u a =
    chars-IsAscii text (IsAscii-printable text ((list_all-is_printable-chars text u).1 a))
text_contents-allowed Octets text u a = chars-IsAscii text (IsAscii-chars text u a)
