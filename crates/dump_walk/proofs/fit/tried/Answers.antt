-- For `fit::tried`: its loop ends.
use Rattle.std.proofs.Common.{◌<◌, ◌≤◌, arith}
use Rattle.dump_walk.specs.Steps.{Takes, to_go}
use Rattle.dump_walk.proofs.Cursors.{to_go-left_le, to_go-step_lt}
use Rattle.dump_walk.proofs.fit.tried.Goals as goal

pub loop-left-smaller : goal.loop-left-smaller
loop-left-smaller c =
    let k = c.loop-left.cursor in
    let m = c.next.new.self in
    let n = c.go.new.self in
    let e = c.in-Some.ensures in
    let step = c.in-Some-2.step in
    let takes : Takes step c.in-Some.left = rw c.in-Some-2.is at c.in_ok-step.ensures in
    let less : to_go n < to_go m = to_go-step_lt m n c.in-Some.left step e.left takes c.in_ok-go.ensures in
    let fewer : to_go m ≤ to_go k = to_go-left_le k m e.octets e.offset e.ended in
    omega (arith, less, fewer)
