-- For `value::write_bits`: what it returns is right.
use Rattle.dump_json.proofs.Written.{IsWritten-bits}
use Rattle.dump_json.proofs.value.write_bits.Goals as goal

pub returns : goal.returns
returns g c =
    IsWritten-bits _ _ _ _ _ _ c.in_ok-write_part.ensures.written c.in_ok-write_natural.ensures
    c.in_ok-write_part-2.ensures.written c.in_ok-write_hex.ensures c.in_ok-write_part-3.ensures.written
