-- For `line::Dumper::write_begin`: what it returns is right.
use Rattle.std.proofs.Common.{codes, false}
use Rattle.std.proofs.lemmas.Result.{IfOk-weaker}
use Rattle.dump_json.specs.Grammar.{IsOpenObject}
use Rattle.dump_json.proofs.Written.{IsWritten-then}
use Rattle.dump_json.proofs.line.Dumper.write_begin.Goals as goal

pub returns : goal.returns
returns g c =
    IfOk-weaker c.write_piece.result _ _
    (λ later a. IsWritten-then (IsOpenObject false) (IsOpenObject later) _ _ _
    (codes "{", c.in_ok-write_part.ensures.written, IsOpenObject.begin_object) a) c.write_piece.ensures
