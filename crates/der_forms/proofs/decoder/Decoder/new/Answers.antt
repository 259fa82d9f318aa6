-- For `decoder::Decoder::new`: what it returns is right.
use Rattle.std.proofs.Common.{◌∙◌}
use Rattle.der_forms.proofs.Decoded.{encode_of-none}
use Rattle.der_forms.proofs.decoder.Decoder.new.Goals as goal

pub returns : goal.returns
returns c =
    encode_of-none c.new.result.items c.new-2.result.items c.new.ensures.items ∙ c.new-2.ensures.items
