-- For `piece::Here::plain`: what it returns is right.
use Rattle.std.proofs.Common.{refl, subst}
use Rattle.dump_walk.specs.Fronts.{IsNextLine}
use Rattle.dump_walk.specs.Pieces.{fault_offset}
use Rattle.dump_walk.proofs.Pieces.{kind_front-plain}
use Rattle.dump_walk.proofs.piece.Here.plain.Goals as goal

pub returns : goal.returns
returns c =
    let left = c.args.self.left in
    let offset = c.args.self.offset in
    record {
      line = λ depth. subst (λ z. IsNextLine left.is_indefinite offset depth left.octets.now c.args.step z
          (fault_offset c.args.fault)) (kind_front-plain offset depth c.none.result.rules.items
          c.none.result.has_spare_bits c.args.kind c.none.ensures.rules c.none.ensures.spare) (c.requires.line depth);
      sized = c.requires.sized;
      offset_is = refl;
      place_is = refl;
      holding = tt;
    }
