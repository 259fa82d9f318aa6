-- For `hex_decoder::HexDecoder::finish`: what it returns is right.
use Rattle.std.proofs.Common.{◌≡◌, arith, length, subst}
use Rattle.std.proofs.lemmas.Bool.Decides.{nat_tests}
use Rattle.der_digits.specs.Decoded.{ArePairs}
use Rattle.der_digits.specs.Spelled.{octets_of_pairs}
use Rattle.std.specs.Prelude.{Some}
use Rattle.der_digits.proofs.Spelled.{all-spelled, none-of_some, odd-spelled}
use Rattle.der_digits.proofs.hex_decoder.HexDecoder.finish.Goals as goal

pub returns-in-Some : goal.returns-in-Some
returns-in-Some c = λ digits read.
    odd-spelled c.args.self.octets.items digits c.in-Some.field-0
    (subst (λ high. ArePairs c.args.self.octets.items high digits) c.in-Some.is read)

pub returns-in-None : goal.returns-in-None
returns-in-None c = λ digits read.
    let is = c.is_empty.ensures in
    let test = c.if-is_empty.true in
    none-of_some digits c.args.self.octets.items
    (subst (λ high. ArePairs c.args.self.octets.items high digits) c.in-None.is read) (grind (arith, nat_tests))

pub returns-in-None-2 : goal.returns-in-None-2
returns-in-None-2 c = λ digits read.
    let some : length c.args.self.octets.items ≡ 0 → ⊥ = λ none.
    let is = c.is_empty.ensures in
    let test = c.if-is_empty.false in
    absurd (grind (arith, nat_tests, none)) in
    let pairs : octets_of_pairs digits ≡ Some c.args.self.octets.items =
    subst (λ high. ArePairs c.args.self.octets.items high digits) c.in-None.is read in
    (all-spelled digits c.args.self.octets.items pairs some, pairs)
