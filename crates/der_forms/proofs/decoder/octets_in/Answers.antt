-- For `decoder::octets_in`: what it returns is right.
use Rattle.std.proofs.Common.{◌≡◌, ◌++◌, ◌∙◌, None, Ok, Some, ap, subst}
use Rattle.std.specs.Result.{result_ok}
use Rattle.base64.specs.Engines.{standard}
use Rattle.base64.specs.GeneralPurpose.{decode_of}
use Rattle.der_forms.specs.Decoded.{symbols_read}
use Rattle.der_forms.specs.Forms.{without_spaces}
use Rattle.der_forms.proofs.decoder.octets_in.Goals as goal

pub returns-in-Ok : goal.returns-in-Ok
returns-in-Ok c =
    let decoded : decode_of standard (symbols_read c.read.new.self) ≡ Ok c.in-Ok.octets.items =
    rw c.in-Ok.is at c.in_ok-octets.ensures in
    subst (λ z. result_ok (decode_of standard z) ≡ Some c.in-Ok.octets.items)
    (c.in_ok-read.ensures ∙ ap (λ z. z ++ without_spaces c.args.text.now) c.new-decoder.ensures)
    (ap result_ok decoded)

pub returns-in-Err : goal.returns-in-Err
returns-in-Err c =
    let read = symbols_read c.read.new.self in
    let (same, none) : (c.in-Err.e.symbols.items ≡ read) × (result_ok (decode_of standard read) ≡ None) =
    rw c.in-Err.is at c.in_ok-octets.ensures in
    let all = c.in_ok-read.ensures ∙ ap (λ z. z ++ without_spaces c.args.text.now) c.new-decoder.ensures in
    (same ∙ all, subst (λ z. result_ok (decode_of standard z) ≡ None) all none)
