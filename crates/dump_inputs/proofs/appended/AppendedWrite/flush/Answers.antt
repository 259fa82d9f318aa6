-- For `flush` of `appended::Appended`: what the writer held is still at the front.
use Rattle.std.proofs.Math.Logic.{∥∥₁_map}
use Rattle.dump_inputs.proofs.Growing.{Grows-kept, Grows-trans}
use Rattle.dump_inputs.proofs.appended.AppendedWrite.flush.Goals as goal

pub invariant_of-self : goal.invariant_of-self
invariant_of-self g c =
    let before = g.W.Write.contents c.args.self.now.writer in
    let after = g.W.Write.contents c.flush.new.self in
    record {
      grows = ∥∥₁_map c.args.self.now.grows (λ earlier. Grows-trans g.B.Before.before before after earlier
          (Grows-kept before after c.flush.ensures.bytes));
    }
