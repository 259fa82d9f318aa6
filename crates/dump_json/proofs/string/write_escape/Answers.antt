-- For `string::write_escape`: what it returns is right.
use Rattle.dump_json.specs.Grammar.{IsChar}
use Rattle.dump_json.proofs.Texts.{AreChars-one}
use Rattle.dump_json.proofs.string.write_escape.Goals as goal

pub returns : goal.returns
returns g c =
    (_, c.in_ok-write_part.ensures.written, AreChars-one _ (IsChar.escaped c.args.letter c.requires))
