-- Numerals that are pushed, and the components in decimal that they make, for the functions of `dotted`.
use Rattle.std.proofs.Common.{◌≡◌, ℕ, ◌+◌, ◌<◌, ◌≤◌, ◌%◌, ◌/◌, List, [], ◌∷◌, ◌++◌, sym, ap, ◌∙◌, arith, map, append_assoc}
use Rattle.std.specs.Prelude.{IsTrue, Bool, Result, Ok, Err, OnOk}
use Rattle.std.specs.Int.Digits.{digits_of}
use Rattle.std.specs.List.{flat_map}
use Rattle.std.specs.Result.{is_ok}
use Rattle.std.proofs.lemmas.Int.Digits.{digits_of_step}
use Rattle.asn1_numbers.specs.Decimal.{natural_numeral}
use Rattle.asn1_numbers.specs.Octets.{digit}
use Rattle.asn1_numbers.proofs.Numerals.{natural_numeral-positive}
use Rattle.asn1_leaves.specs.Contents.ObjectIdentifier.{AreFirstTwo}
use Rattle.asn1_leaves.specs.DottedDecimal.{dotted_decimal}
use Rattle.asn1_leaves.specs.Inner.IdentifierForms.{components_of, first_component, numbers_after, pointed, second_component}
use Rattle.asn1_leaves.proofs.DottedNumbers.{dotted_decimal-cons}
use Rattle.asn1_leaves.proofs.IdentifierForms.{first_component-AreFirstTwo, second_component-AreFirstTwo}

-- where a result is found to be Ok, what holds of an Ok holds
pub OnOk-is_ok : {T E P : Type 0} (r : Result T E) (b : Bool) → b ≡ is_ok r → IsTrue b → OnOk r P → P
OnOk-is_ok (Ok x) b e is_true p = p
OnOk-is_ok (Err x) b e is_true p = grind (arith, e, is_true)

-- the numeral of a number from 10 to 99 is two digits
pub natural_numeral-two_digits : (n : ℕ) → 10 ≤ n → n < 100 → (48 + n / 10) ∷ (48 + n % 10) ∷ [] ≡ natural_numeral n
natural_numeral-two_digits n two low =
    let none : n / 10 / 10 ≡ 0 = omega (arith, low) in
    let first : n / 10 % 10 ≡ n / 10 = omega (arith, low) in
    let front : digits_of 10 (n / 10) ≡ n / 10 ∷ [] =
    digits_of_step 10 (n / 10) (omega arith) (omega (arith, two)) ∙ (λ i. digits_of 10 (none i) ++ (first i ∷ [])) in
    sym (
    natural_numeral-positive n (omega (arith, two))
    ∙ ap (map digit) (digits_of_step 10 n (omega arith) (omega (arith, two)) ∙ ap (λ z. z ++ (n % 10) ∷ []) front)
    )

-- the numerals of the first two components, and then of the others, are the components of contents octets in decimal
pub dotted_decimal-pushed : (contents rest : List ℕ) (b x y : ℕ) (text one two all : List ℕ) → contents ≡ b ∷ rest →
    AreFirstTwo x y b
    → one ≡ text ++ natural_numeral x → two ≡ one ++ pointed y → all ≡ two ++ flat_map pointed (numbers_after 0 rest)
    → all ≡ text ++ dotted_decimal (components_of contents)
dotted_decimal-pushed contents rest b x y text one two all e pair first second others =
    let x_is : first_component b ≡ x = first_component-AreFirstTwo x y b pair in
    let y_is : second_component b ≡ y = second_component-AreFirstTwo x y b pair in
    let ns = numbers_after 0 rest in
    let components : x ∷ y ∷ ns ≡ components_of contents = sym (ap components_of e ∙ cc) in
    let whole : text ++ (natural_numeral x ++ (pointed y ++ flat_map pointed ns)) ≡ text
    ++ dotted_decimal (components_of contents) =
    ap (λ z. text ++ z) (sym (dotted_decimal-cons x (y ∷ ns)) ∙ ap dotted_decimal components) in
    others
    ∙ ap (λ z. z ++ flat_map pointed ns) (second ∙ ap (λ z. z ++ pointed y) first)
    ∙ append_assoc (text ++ natural_numeral x) (pointed y) (flat_map pointed ns)
    ∙ append_assoc text (natural_numeral x) (pointed y ++ flat_map pointed ns)
    ∙ whole
