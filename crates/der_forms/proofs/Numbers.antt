-- Numbers in base 256, for `input::number_fits`.
use Rattle.std.proofs.Common.{◌≡◌, ◌≤◌, ◌<◌, ℕ, ◌+◌, ◌*◌, ◌==◌, List, [], ◌∷◌, false, arith, drop, length, take}
use Rattle.der_forms.specs.Known.{number_fits, with_digits}

-- a number is no more than with digits behind it
pub le-with_digits : (number : ℕ) (digits : List ℕ) → number ≤ with_digits number digits
le-with_digits number [] = omega arith
le-with_digits number (digit ∷ digits) =
    let more = le-with_digits (256 * number + digit) digits in omega (arith, more)

-- where fewer octets follow digits than a number says that is no more than that of the digits, the digits do not fit
pub number_fits-beyond :
    (count number : ℕ) (octets digits rest : List ℕ) → digits ≡ take count octets → rest ≡ drop count octets →
    length rest < number → number ≤ with_digits 0 digits → false ≡ number_fits count octets
number_fits-beyond count number octets digits rest d r less more =
    let differs : (with_digits 0 (take count octets) == length (drop count octets)) ≡ false =
    rw (← d, ← r) (grind (arith, less, more)) in
    rw differs (grind arith)
