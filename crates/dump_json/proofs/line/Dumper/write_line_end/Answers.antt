-- For `line::Dumper::write_line_end`: what it returns is right.
use Rattle.dump_json.specs.Grammar.{IsOpenObject}
use Rattle.dump_json.specs.Lines.{IsLine}
use Rattle.dump_json.proofs.Written.{IsWritten-again, IsWritten-end_line}
use Rattle.dump_json.proofs.line.Dumper.write_line_end.Goals as goal

pub returns : goal.returns
returns g c =
    IsWritten-again (IsOpenObject c.args.is_later) (IsOpenObject _) IsLine _ _ _ c.in_ok-write_members.ensures
    (IsWritten-end_line _ _ _ c.in_ok-write_part.ensures.written)
