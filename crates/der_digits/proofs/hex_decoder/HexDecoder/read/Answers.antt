-- For `hex_decoder::HexDecoder::read`: what it returns is right, where a pair is whole (`read`).
use Rattle.std.proofs.Common.{◌∙◌, ap, subst, sym, Some}
use Rattle.der_digits.specs.Decoded.{ArePairs}
use Rattle.der_digits.proofs.Spelled.{ArePairs-second}
use Rattle.der_digits.proofs.hex_decoder.HexDecoder.read.Goals as goal

pub returns-in_ok-push-in-Some-high-clause-read : goal.returns-in_ok-push-in-Some-high-clause-read
returns-in_ok-push-in-Some-high-clause-read c = λ digits read.
    ArePairs-second c.args.self.now.octets.items digits c.in-Some-high.high c.args.symbol c.in-Some.value
    (subst (λ high. ArePairs c.args.self.now.octets.items high digits) c.in-Some-high.is read)
    (sym c.digit_value.ensures.value ∙ c.in-Some.is)
    ∙ ap Some (sym c.in_ok-push-in-Some-high.ensures.items)
