-- For `string::write_string`: what it returns is right.
use Rattle.dump_json.proofs.Written.{IsWritten-string}
use Rattle.dump_json.proofs.string.write_string.Goals as goal

pub returns : goal.returns
returns g c =
    IsWritten-string _ _ _ _ c.in_ok-write_part.ensures.written c.in_ok-write_chars.ensures
    c.in_ok-write_part-2.ensures.written
