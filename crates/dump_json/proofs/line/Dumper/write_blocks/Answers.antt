-- For `line::Dumper::write_blocks`: what it returns is right.
use Rattle.std.proofs.Common.{true}
use Rattle.dump_json.specs.Grammar.{IsOpenObject}
use Rattle.dump_json.specs.Lines.{IsLine}
use Rattle.dump_json.proofs.Written.{IsWritten-begun, IsWritten-then}
use Rattle.dump_json.proofs.line.Dumper.write_blocks.Goals as goal

pub returns : goal.returns
returns g c =
    IsWritten-then (IsOpenObject true) IsLine _ _ _
    (IsWritten-begun _ _ _ c.in_ok-write_part.ensures.written c.in_ok-first.ensures)
    c.in_ok-write_line_end.ensures
