-- For `line::Dumper::push_document`: what it returns is right.
use Rattle.dump_json.specs.Lines.{AreLines}
use Rattle.dump_json.proofs.Written.{IsWritten-line, IsWritten-then}
use Rattle.dump_json.proofs.line.Dumper.push_document.Goals as goal

pub returns-then-is_empty : goal.returns-then-is_empty
returns-then-is_empty g c = IsWritten-line _ _ c.in_ok-write_line.ensures

pub returns : goal.returns
returns g c =
    IsWritten-then AreLines AreLines _ _ _
    (IsWritten-then AreLines AreLines _ _ _ (IsWritten-line _ _ c.in_ok-first.ensures) c.in_ok-write_some.ensures)
    c.in_ok-write_some-2.ensures
