-- For `line::Dumper::write_some`: what it returns is right.
use Rattle.std.proofs.Common.{[]}
use Rattle.std.proofs.KnownBytes.{Appends-nil}
use Rattle.dump_json.specs.Lines.{AreLines}
use Rattle.dump_json.proofs.Texts.{Turns-none}
use Rattle.dump_json.proofs.line.Dumper.write_some.Goals as goal

pub returns-in_default : goal.returns-in_default
returns-in_default g c = ([], Appends-nil (g.W.Write.contents c.args.out.now), Turns-none AreLines)

pub returns : goal.returns
returns g c =
    let (line, put, h) = c.in_ok-write_line.ensures in
    (line, put, λ lines are. AreLines.more lines line are h)
