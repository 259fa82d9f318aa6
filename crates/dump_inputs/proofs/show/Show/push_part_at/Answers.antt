-- For `show::Show::push_part_at`: what it returns is right.
use Rattle.std.proofs.Common.{[], inl, inr, refl}
use Rattle.std.proofs.KnownBytes.{Appends-nil}
use Rattle.std.proofs.lemmas.Result.{IfOk-weaker}
use Rattle.std.specs.Prelude.{Err, None}
use Rattle.dump_inputs.specs.Blocks.{IsFoundIn}
use Rattle.dump_walk.specs.ByOffset.{HasElementAt}
use Rattle.dump_inputs.proofs.show.Show.push_part_at.Goals as goal

pub returns-in-Ok : goal.returns-in-Ok
returns-in-Ok g c =
    let block = c.in-Ok.block in
    let has : HasElementAt c.args.document.now.octets.items c.args.offset block.octets.now block.contents.now =
    rw c.in-Ok.is at c.in_ok-block.ensures in
    IfOk-weaker c.push_part_of.result _ _
    (λ outcome (octets, part, written). (octets, inl (block.octets.now, block.contents.now, has, part), written))
    c.push_part_of.ensures

pub returns-in-Err : goal.returns-in-Err
returns-in-Err g c =
    let lacks : IsFoundIn c.args.offset c.args.document.now.octets.items (Err c.in-Err.why) =
    rw c.in-Err.is at c.in_ok-block.ensures in
    (None, inr (lacks, refl), ([], Appends-nil (g.W.Write.contents c.args.out.now), refl))
