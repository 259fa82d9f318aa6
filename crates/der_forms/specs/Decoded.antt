-- What a decoder of base 64 has read. Private contracts alone name it.
use Rattle.std.specs.Prelude.{◌++◌, ℕ, List}
use Rattle.base64.specs.Engines.{standard}
use Rattle.base64.specs.GeneralPurpose.{encode_of}
use Rattle.der_forms.specs.declared.decoder.Decoder.{Decoder}

-- the symbols that a decoder has read: those that spell its octets, and those behind them
abbrev pub symbols_read : Decoder → List ℕ
symbols_read decoder = encode_of standard decoder.octets.items ++ decoder.symbols.items
