-- For `account_of`: what it returns is right.
use Rattle.std.proofs.Common.{subst, sym}
use Rattle.dump_text.specs.Shown.{AreLines, no_line}
use Rattle.dump_text.proofs.account_of.Goals as goal

pub returns : goal.returns
returns c = c.in_ok-push_inside.ensures (c.in_ok-seen.ensures (subst AreLines (sym c.new-text.ensures.bytes) no_line))
