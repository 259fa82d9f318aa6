-- For `piece::Here::opened`: what it returns is right.
use Rattle.std.proofs.Common.{refl, subst}
use Rattle.dump_walk.specs.Fronts.{an_encoding, whole}
use Rattle.dump_walk.specs.Steps.{IsTaken}
use Rattle.dump_walk.proofs.piece.Here.opened.Goals as goal

pub returns : goal.returns
returns c =
    let r = c.requires in
    let header = c.args.header in
    let found = c.in_ok-breaches.ensures in
    let taken = subst (λ z. IsTaken header z c.step_of-step.result) c.size_of-size.ensures c.step_of-step.ensures in
    record {
      line = λ depth. an_encoding r.other header r.is taken refl
          (whole r.whole found.rules found.list c.in_ok-fault.ensures);
      sized = r.whole;
      offset_is = refl;
      place_is = refl;
      holding = tt;
    }
