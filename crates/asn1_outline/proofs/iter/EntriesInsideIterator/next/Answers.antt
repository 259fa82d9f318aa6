-- For `iter::EntriesInsideIterator::next`: it keeps the invariant of its type.
use Rattle.std.proofs.Common.{suc, ◌+◌, ◌<◌, ◌^◌, subst, arith}
use Rattle.std.specs.List.{All}
use Rattle.asn1_outline.proofs.iter.EntriesInsideIterator.next.Goals as goal

pub invariant_of-self : goal.invariant_of-self
invariant_of-self c =
    let all =
    subst (All (λ r. c.self.inside.start + r.offset < 2 ^ 64)) c.in_ok-entry.ensures.cases.0 c.self.invariant in
    λ k d h. all (suc k) d (omega (arith, h))
