-- For `piece::Here::cut`: `plain` may be called.
use Rattle.std.proofs.Common.{◌+◌, length, refl, subst}
use Rattle.dump_walk.specs.Fronts.{an_encoding, cut_short}
use Rattle.dump_walk.specs.Steps.{IsTaken}
use Rattle.dump_walk.proofs.Pieces.{fault_offset-at, taken-cut}
use Rattle.dump_walk.proofs.piece.Here.cut.Goals as goal

pub plain-requires-clause-line : goal.plain-requires-clause-line
plain-requires-clause-line c = λ depth.
    let r = c.requires in
    let header = c.args.header in
    let at = fault_offset-at c.args.self.offset c.in_ok-fault.fault c.in_ok-fault.ensures.found.0 in
    let all = taken-cut header.is_indefinite (header.size + header.announced) (length c.args.self.left.octets.now) r.cut
    in
    let taken = subst (λ z. IsTaken header z c.step_of-step.result) all c.step_of-step.ensures in
    an_encoding r.other header r.is taken refl (cut_short r.cut refl refl refl at)
