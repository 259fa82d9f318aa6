-- For `string::write_hidden`: what it returns is right.
use Rattle.dump_json.specs.Grammar.{AreChars}
use Rattle.dump_json.proofs.Texts.{AreChars-append}
use Rattle.dump_json.proofs.Written.{IsWritten-trans}
use Rattle.dump_json.proofs.string.write_hidden.Goals as goal

pub returns : goal.returns
returns g c =
    IsWritten-trans AreChars AreChars-append _ _ _ c.in_ok-write_unit.ensures c.in_ok-write_unit-2.ensures
