-- For `decoder::Decoder::finish`: what it returns is right.
use Rattle.std.proofs.Common.{◌≡◌, ◌∙◌, refl, sym}
use Rattle.base64.specs.Engines.{standard}
use Rattle.base64.specs.GeneralPurpose.{IsBytes, encode_of}
use Rattle.der_forms.proofs.Decoded.{decode_of-last}
use Rattle.der_forms.proofs.decoder.Decoder.finish.Goals as goal

pub returns-in-Ok : goal.returns-in-Ok
returns-in-Ok c =
    let last = c.in-Ok.last.items in
    let exact : c.deref.result.now ≡ encode_of standard last =
    rw c.in-Ok.is at (c.in_ok-last.ensures.exact (refl, refl)) in
    let bytes : IsBytes last = rw c.in-Ok.is at c.in_ok-last.ensures.bytes in
    rw (c.in_ok-extend_from_slice.ensures.items, c.deref-in-Ok.ensures.value)
    (decode_of-last c.args.self.octets.items last c.args.self.symbols.items c.args.self.is_whole bytes
    (sym c.deref.ensures.value ∙ exact))
