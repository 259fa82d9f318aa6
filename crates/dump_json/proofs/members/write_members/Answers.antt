-- For `members::write_members`: its loop keeps its invariant.
use Rattle.std.proofs.Common.{[]}
use Rattle.std.proofs.KnownBytes.{Appends-nil}
use Rattle.dump_json.specs.Grammar.{IsOpenObject}
use Rattle.dump_json.proofs.Texts.{Turns-none}
use Rattle.dump_json.proofs.Written.{IsWritten-again}
use Rattle.dump_json.proofs.members.write_members.Goals as goal

pub loop-name-init : goal.loop-name-init
loop-name-init g c =
    ([], Appends-nil (g.W.Write.contents c.args.out.now), Turns-none (IsOpenObject c.args.is_later))

pub loop-name-preserved : goal.loop-name-preserved
loop-name-preserved g c =
    IsWritten-again (IsOpenObject c.args.is_later) (IsOpenObject c.loop-name.has_some) (IsOpenObject _) _ _ _
    c.loop-name.invariant c.in_ok-has_some.ensures
