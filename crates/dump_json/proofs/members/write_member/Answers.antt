-- For `members::write_member`: what it returns is right.
use Rattle.std.proofs.Common.{[]}
use Rattle.std.proofs.KnownBytes.{Appends-nil}
use Rattle.dump_json.specs.Grammar.{IsOpenObject}
use Rattle.dump_json.proofs.Texts.{Turns-none}
use Rattle.dump_json.proofs.Written.{IsWritten-member}
use Rattle.dump_json.proofs.members.write_member.Goals as goal

pub returns-in_default : goal.returns-in_default
returns-in_default g c =
    ([], Appends-nil (g.W.Write.contents c.args.out.now), Turns-none (IsOpenObject c.args.is_later))

pub returns : goal.returns
returns g c =
    IsWritten-member c.args.is_later _ _ _ _ c.in_ok-write_part.ensures.written c.begin.ensures
    c.in_ok-write_value.ensures
