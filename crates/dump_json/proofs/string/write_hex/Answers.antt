-- For `string::write_hex`: what it returns is right.
use Rattle.dump_json.proofs.Written.{IsWritten-string}
use Rattle.dump_json.proofs.string.write_hex.Goals as goal

pub returns : goal.returns
returns g c =
    IsWritten-string _ _ _ _ c.in_ok-write_part.ensures.written c.in_ok-write_digits.ensures
    c.in_ok-write_part-2.ensures.written
