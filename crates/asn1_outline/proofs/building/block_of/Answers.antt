-- For `building::block_of`: what it returns is right (`block`, `rest`).
use Rattle.asn1_outline.proofs.BuildSteps.{map-view_taken_items}
use Rattle.asn1_outline.proofs.building.block_of.Goals as goal

pub returns-in-Ok-clause-block : goal.returns-in-Ok-clause-block
returns-in-Ok-clause-block c n next =
    let (own, left) =
    map-view_taken_items n c.args.built.now c.in_ok-inside.inside c.take_built.new.built c.args.entry.now.items
    next.rest c.in_ok-inside.ensures next.items next.ahead_is in
    c.in-Ok.ensures n next.node own

pub returns-in-Ok-clause-rest : goal.returns-in-Ok-clause-rest
returns-in-Ok-clause-rest c n next =
    let (own, left) =
    map-view_taken_items n c.args.built.now c.in_ok-inside.inside c.take_built.new.built c.args.entry.now.items
    next.rest c.in_ok-inside.ensures next.items next.ahead_is in
    left
