-- Numbers in decimal with points between them: joined, and cut at the points, for `oid` and `simple_asn1_c`.
use Rattle.std.proofs.Common.{◌≡◌, ℕ, zero, suc, ◌<◌, ◌≤◌, List, [], ◌∷◌, ◌++◌, length, get_or, All, refl, sym, ap, ◌∙◌, arith, map, false, append-nil, append_assoc, drop}
use Rattle.std.specs.Prelude.{◌==◌, decimal}
use Rattle.std.specs.Fmt.{HasWritten, IsPlainFormatter}
use Rattle.std.specs.List.{flat_map, slice_range, slice_split}
use Rattle.std.specs.declared.fmt.Formatter.{Formatter}
use Rattle.std.proofs.Output.{has_written_append, has_written_of_eq}
use Rattle.asn1_numbers.specs.Base128.{IsBase128}
use Rattle.std.proofs.lemmas.Bool.{ne_eqb}
use Rattle.std.proofs.lemmas.Grind.{flat_map-append}
use Rattle.std.proofs.lemmas.List.Elements.{All-from_get_or}
use Rattle.std.proofs.lemmas.List.Splits.{slice_split_at, slice_split_none}
use Rattle.asn1_numbers.specs.Decimal.{natural_numeral}
use Rattle.asn1_numbers.proofs.Numerals.{decimal-natural_numeral}
use Rattle.asn1_numbers.proofs.ReadNumerals.{AreDigits-natural_numeral, natural_numeral-injective}
use Rattle.asn1_leaves.specs.DottedDecimal.{IsDottedDecimal, dotted_decimal}
use Rattle.asn1_leaves.specs.Inner.IdentifierForms.{numbers_after, pointed}
use Rattle.asn1_leaves.proofs.PushedNumbers.{numbers_after-drop}

-- pointed numerals with one more at the end are those of the numbers with one more at the end
pub append-flat_map-pointed : (ns : List ℕ) (n : ℕ) → flat_map pointed ns ++ pointed n ≡ flat_map pointed (ns ++ n ∷ [])
append-flat_map-pointed ns n = sym
    (flat_map-append pointed ns (n ∷ []) ∙ ap (λ l. flat_map pointed ns ++ l) (append-nil (pointed n)))

-- the first of numbers in decimal has no point before it
pub dotted_decimal-cons : (n : ℕ) (ns : List ℕ) → dotted_decimal (n ∷ ns) ≡ natural_numeral n ++ flat_map pointed ns
dotted_decimal-cons n [] = sym (append-nil (natural_numeral n))
dotted_decimal-cons n (m ∷ ns) = ap (λ l. natural_numeral n ++ 46 ∷ l) (dotted_decimal-cons m ns)

-- numbers in decimal begin with the first two as the machine writes them
pub append-decimal-dotted : (x y : ℕ) (ns : List ℕ) → x < 256 → y < 256
    → (decimal x ++ 46 ∷ decimal y) ++ flat_map pointed ns ≡ dotted_decimal (x ∷ y ∷ ns)
append-decimal-dotted x y ns low_x low_y =
    let first = decimal-natural_numeral x (omega arith) in
    let second = decimal-natural_numeral y (omega arith) in
    (λ i. (first i ++ 46 ∷ second i) ++ flat_map pointed ns)
    ∙ append_assoc (natural_numeral x) (pointed y) (flat_map pointed ns)
    ∙ ap (λ l. natural_numeral x ++ 46 ∷ l) (sym (dotted_decimal-cons y ns))

-- no digit is a point
All-natural_numeral-no_point : (n : ℕ) → All (λ b. (b == 46) ≡ false) (natural_numeral n)
All-natural_numeral-no_point n =
    All-from_get_or (λ b. (b == 46) ≡ false) (natural_numeral n) 0
    (λ k h. ne_eqb (get_or (natural_numeral n) k 0) 46
    (λ e. omega (arith, AreDigits-natural_numeral n (natural_numeral n) refl k h, e)))

-- numbers in decimal that are cut at the points are their numerals
slice_split-dotted_decimal : (n : ℕ) (ns : List ℕ) →
    slice_split (λ b. b == 46) (dotted_decimal (n ∷ ns)) ≡ map natural_numeral (n ∷ ns)
slice_split-dotted_decimal n [] = slice_split_none (λ b. b == 46) (natural_numeral n) (All-natural_numeral-no_point n)
slice_split-dotted_decimal n (m ∷ ns) =
    slice_split_at (λ b. b == 46) (natural_numeral n) 46 (dotted_decimal (m ∷ ns)) (All-natural_numeral-no_point n) refl
    ∙ ap (λ l. natural_numeral n ∷ l) (slice_split-dotted_decimal m ns)

-- a text of numbers in decimal, cut at the points, is the numerals of these numbers
pub slice_split-IsDottedDecimal : (text ns : List ℕ) → IsDottedDecimal text ns →
    slice_split (λ b. b == 46) text ≡ map natural_numeral ns
slice_split-IsDottedDecimal text [] dotted = absurd (dotted.1 refl)
slice_split-IsDottedDecimal text (n ∷ ns) dotted =
    ap (slice_split (λ b. b == 46)) dotted.0 ∙ slice_split-dotted_decimal n ns

abbrev first_of : List (List ℕ) → List ℕ
first_of [] = []
first_of (x ∷ xs) = x

abbrev rest_of : List (List ℕ) → List (List ℕ)
rest_of [] = []
rest_of (x ∷ xs) = xs

-- numerals are of one list of numbers
pub map-natural_numeral-injective : (ms ns : List ℕ) → map natural_numeral ms ≡ map natural_numeral ns → ms ≡ ns
map-natural_numeral-injective [] [] e = refl
map-natural_numeral-injective [] (n ∷ ns) e = absurd (omega (arith, ap length e))
map-natural_numeral-injective (m ∷ ms) [] e = absurd (omega (arith, ap length e))
map-natural_numeral-injective (m ∷ ms) (n ∷ ns) e =
    let first = natural_numeral-injective m n (ap first_of e) in
    let rest = map-natural_numeral-injective ms ns (ap rest_of e) in
    (λ i. first i ∷ rest i)

-- each item of a list of numerals is a numeral
pub part_is_numeral : (ns : List ℕ) (k : ℕ) (part : List ℕ) → k < length (map natural_numeral ns)
    → part ≡ get_or (map natural_numeral ns) k part
    → (n : ℕ) × (part ≡ natural_numeral n)
part_is_numeral [] k part h e = absurd (omega arith)
part_is_numeral (n ∷ ns) zero part h e = (n, e)
part_is_numeral (n ∷ ns) (suc k) part h e = part_is_numeral ns k part (omega arith) e

-- the numbers before the index are written, each after a point, and those after it are all others
abbrev pub AreWritten : {W : Type 0} → (W → List ℕ → W → Type 0) → Formatter W → Formatter W → List ℕ → ℕ → Type 0
AreWritten took f g octets i =
    (i ≤ length octets)
    × ((done : List ℕ) × (done ++ numbers_after 0 (drop i octets) ≡ numbers_after 0 octets)
    × (IsPlainFormatter f → HasWritten took f (flat_map pointed done) g))

-- once the number of the next subidentifier is written after a point, all before the index behind it are
pub AreWritten-more : {W : Type 0} (took : W → List ℕ → W → Type 0) (f g h : Formatter W) (octets : List ℕ) (i j n : ℕ)
    → i ≤ j → j ≤ length octets → IsBase128 (slice_range octets i j) n → AreWritten took f g octets i
    → (IsPlainFormatter g → HasWritten took g (pointed n) h)
    → AreWritten took f h octets j
AreWritten-more took f g h octets i j n forward inside p (within, (done, all, before)) write =
    let next = numbers_after-drop octets i j n forward p in (
      inside,
      (
        done ++ n ∷ [],
        append_assoc done (n ∷ []) (numbers_after 0 (drop j octets)) ∙ ap (λ z. done ++ z) (sym next) ∙ all,
        λ plain.
            let so_far = before plain in
            has_written_of_eq took f (flat_map pointed done ++ pointed n) (flat_map pointed (done ++ n ∷ [])) h
            (append-flat_map-pointed done n)
            (has_written_append took f (flat_map pointed done) g (pointed n) h so_far (write so_far.plain)),
      ),
    )

-- what is written in two parts, one after the other, is the text that they make up
pub HasWritten-append : {W : Type 0} (took : W → List ℕ → W → Type 0) (f g h : Formatter W) (text first rest : List ℕ)
    → first ++ rest ≡ text → HasWritten took f first g → (IsPlainFormatter g → HasWritten took g rest h)
    → HasWritten took f text h
HasWritten-append took f g h text first rest e before write =
    has_written_of_eq took f (first ++ rest) text h e
    (has_written_append took f first g rest h before (write before.plain))
