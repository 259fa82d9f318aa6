-- For `decoder::Decoder::read`: what each turn of its loop keeps.
use Rattle.std.proofs.Common.{◌≡◌, ◌++◌, drop}
use Rattle.der_forms.specs.Decoded.{symbols_read}
use Rattle.der_forms.specs.Forms.{without_spaces}
use Rattle.der_forms.proofs.decoder.Decoder.read.Given as goal

abbrev pub invariant-loop-b : goal.invariant-loop-b
invariant-loop-b l =
    symbols_read l.self ++ without_spaces (drop l.b-index l.text) ≡ symbols_read l.fn.self ++ without_spaces l.text
