-- For `cursor::Cursor::next`: what each turn of its loop keeps and what grows less, so that it ends.
use Rattle.std.proofs.Common.{◌≡◌, length}
use Rattle.dump_walk.specs.Steps.{HasLeft, ends_of}
use Rattle.dump_walk.proofs.cursor.Cursor.next.Given as goal

-- contents octets that have ended were left
abbrev pub invariant-loop-end : goal.invariant-loop-end
invariant-loop-end l =
    (l.self.offset ≡ l.fn.self.offset) × (l.self.octets.now ≡ l.fn.self.octets.now)
    × HasLeft l.self.octets.now l.self.offset (ends_of l.fn.self) (ends_of l.self)

abbrev pub decreases-loop-end : goal.decreases-loop-end
decreases-loop-end l = length l.self.ends.items
