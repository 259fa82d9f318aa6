-- For `line::Dumper::write_line`: what it returns is right.
use Rattle.std.proofs.Common.{codes, false}
use Rattle.dump_json.specs.Grammar.{IsOpenObject}
use Rattle.dump_json.specs.Lines.{IsLine}
use Rattle.dump_json.proofs.Written.{IsWritten-then}
use Rattle.dump_json.proofs.line.Dumper.write_line.Goals as goal

pub returns : goal.returns
returns g c =
    IsWritten-then (IsOpenObject _) IsLine _ _ _
    (IsWritten-then (IsOpenObject false) (IsOpenObject _) _ _ _
    (codes "{", c.in_ok-write_part.ensures.written, IsOpenObject.begin_object) c.in_ok-is_later.ensures)
    c.in_ok-write_line_end.ensures
