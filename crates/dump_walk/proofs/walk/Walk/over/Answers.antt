-- For `walk::Walk::over`: what it returns is right (`begun`).
use Rattle.std.proofs.Common.{ap, refl, reverse}
use Rattle.dump_walk.specs.Steps.{none_yet}
use Rattle.dump_walk.proofs.walk.Walk.over.Goals as goal

pub returns-clause-begun : goal.returns-clause-begun
returns-clause-begun c =
    let e = c.in_ok-over.ensures in
    record { same_octets = e.octets; to = none_yet e.offset (ap reverse e.ends) refl }
