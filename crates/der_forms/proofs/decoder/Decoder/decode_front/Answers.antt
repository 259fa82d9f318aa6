-- For `decoder::Decoder::decode_front`: what it returns is right.
use Rattle.std.proofs.Common.{◌≡◌, ◌∙◌, refl, sym}
use Rattle.base64.specs.Engines.{standard}
use Rattle.base64.specs.GeneralPurpose.{encode_of}
use Rattle.der_forms.proofs.Decoded.{encode_of-decoded}
use Rattle.der_forms.proofs.decoder.Decoder.decode_front.Goals as goal

pub returns-in_ok-extend_from_slice-in-Ok : goal.returns-in_ok-extend_from_slice-in-Ok
returns-in_ok-extend_from_slice-in-Ok c =
    let octets = c.in-Ok.octets.items in
    let exact : c.deref.result.now ≡ encode_of standard octets =
    rw c.in-Ok.is at (c.in_ok-octets.ensures.exact (refl, refl)) in
    rw (c.in_ok-extend_from_slice-in-Ok.ensures.items, c.deref-in-Ok.ensures.value, c.clear.ensures.items)
    (encode_of-decoded c.args.self.now.octets.items octets c.args.self.now.symbols.items c.args.self.now.is_whole.0
    (sym c.deref.ensures.value ∙ exact))
