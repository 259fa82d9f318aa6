-- For `block::found_by`: what it returns is right.
use Rattle.std.proofs.Common.{arith}
use Rattle.dump_walk.proofs.block.found_by.Goals as goal

pub returns : goal.returns
returns c =
    let nested = c.in-Some.nested in
    let before = c.in_ok-before.ensures in
    let first = c.in_ok-first.ensures in
    let size = c.sizes.ensures.header in (
      λ left holding.
          let (documents, whole, holds) = rw c.in-Some.is at holding in (
            whole,
            nested.before,
            holds,
            omega (arith, before, first, size, c.if-offset-first.false),
            omega (arith, c.if-offset-first.false, c.if-offset-first-2.false),
          ),
      c.in_ok-inside.ensures.fewer,
    )
