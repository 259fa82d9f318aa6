-- For `cursor::Cursor::innermost`: what it returns is right (`some`).
use Rattle.std.proofs.Common.{ap, false, reverse, sym, ◌∙◌, arith}
use Rattle.dump_walk.specs.Steps.{end_at}
use Rattle.dump_walk.proofs.Cursors.{reverse-innermost}
use Rattle.dump_walk.proofs.cursor.Cursor.innermost.Goals as goal

pub returns-in-len1-up-clause-some : goal.returns-in-len1-up-clause-some
returns-in-len1-up-clause-some c =
    let (around, is) =
    reverse-innermost c.as_slice.result.now (end_at 0 false) (omega (arith, c.in-len1-up.len_at_least)) in
    (around, sym (ap reverse c.as_slice.ensures.value) ∙ is)
