-- For `fit::Trial::look_at`: the step takes some octets.
use Rattle.std.proofs.Common.{◌<◌, arith}
use Rattle.dump_walk.specs.Headers.{IsHeaderOf}
use Rattle.dump_walk.proofs.Walks.{size-some}
use Rattle.dump_walk.proofs.fit.Trial.look_at.Goals.{else-is_cut, then-is_cut}
use Rattle.dump_walk.proofs.fit.Trial.look_at.Goals as goal

pub returns-then-header : goal.returns-then-header
returns-then-header c =
    let octets = c.args.left.octets.now in
    let begins : IsHeaderOf octets c.in-Some.header = rw c.in-Some.is at c.in_ok-header.ensures in
    let some = size-some octets c.in-Some.header begins in
    (some.0, some.1)

pub returns : goal.returns
returns c =
    let octets = c.args.left.octets.now in
    let begins : IsHeaderOf octets c.in-Some.header = rw c.in-Some.is at c.in_ok-header.ensures in
    let some = size-some octets c.in-Some.header begins in
    let size : 0 < c.if-is_cut.size =
    elim c.if-is_cut.branch [
      | then-is_cut w ↦ omega (arith, w.size-is, some.1)
      | else-is_cut w ↦ omega (arith, w.size-is, w.size_of-size.ensures, some.2)
    ]
    in
    (size, some.1)
