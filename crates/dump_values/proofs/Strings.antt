-- The digits of a fraction are UTF-8, for `moment::fraction_digits`.
use Rattle.std.proofs.Common.{◌≡◌, ◌<◌, ℕ, true, List, [], ◌∷◌, arith}
use Rattle.std.proofs.lemmas.Bool.{and_parts}
use Rattle.std.proofs.lemmas.Bool.Decides.{nat_tests}
use Rattle.std.proofs.lemmas.List.Elements.{All-cons, All-nil}
use Rattle.std.proofs.lemmas.Str.{IsUtf8-from_ascii}
use Rattle.std.proofs.lemmas.Str.Ascii.{IsAscii-from_all}
use Rattle.std.specs.Char.{is_ascii_digit}
use Rattle.std.specs.List.{All, list_all}
use Rattle.std.specs.Prelude.{IsUtf8}

-- a digit is below 128
is_ascii_digit-small : (b : ℕ) → is_ascii_digit b ≡ true → b < 128
is_ascii_digit-small b e = grind (arith, nat_tests)

-- octets that are all digits are below 128
digits-small : (bs : List ℕ) → list_all is_ascii_digit bs ≡ true → All (λ b. b < 128) bs
digits-small [] e = All-nil (λ b. b < 128)
digits-small (b ∷ bs) e =
    let (here, later) = and_parts (is_ascii_digit b) (list_all is_ascii_digit bs) e in
    All-cons (λ b. b < 128) b bs (is_ascii_digit-small b here) (digits-small bs later)

-- octets that are all digits are UTF-8
pub IsUtf8-digits : (bs : List ℕ) → list_all is_ascii_digit bs ≡ true → IsUtf8 bs
IsUtf8-digits bs e = IsUtf8-from_ascii bs (IsAscii-from_all bs (digits-small bs e))
