-- For `string::write_unit`: what it returns is right.
use Rattle.dump_json.specs.Grammar.{IsChar}
use Rattle.dump_json.proofs.Texts.{AreChars-one}
use Rattle.dump_json.proofs.string.write_unit.Goals as goal

pub returns : goal.returns
returns g c = (
  _,
  c.in_ok-write_part.ensures.written,
  AreChars-one _
      (IsChar.unit _ _ _ _ c.hex_digit.ensures c.hex_digit-2.ensures c.hex_digit-3.ensures c.hex_digit-4.ensures),
)
