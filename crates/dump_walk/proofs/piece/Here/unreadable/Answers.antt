-- For `piece::Here::unreadable`: `plain` may be called.
use Rattle.std.proofs.Common.{refl}
use Rattle.dump_walk.specs.Fronts.{no_header}
use Rattle.dump_walk.proofs.Pieces.{fault_offset-at}
use Rattle.dump_walk.proofs.piece.Here.unreadable.Goals as goal

pub plain-requires-clause-line : goal.plain-requires-clause-line
plain-requires-clause-line c = λ depth.
    let r = c.requires in
    let at = fault_offset-at c.args.self.offset c.in_ok-fault.fault c.in_ok-fault.ensures.found.0 in
    no_header r.other r.some r.none refl refl at
