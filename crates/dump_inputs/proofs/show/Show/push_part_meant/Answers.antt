-- For `show::Show::push_part_meant`: what it returns is right.
use Rattle.std.proofs.Common.{[], refl}
use Rattle.std.proofs.KnownBytes.{Appends-nil}
use Rattle.std.proofs.lemmas.Result.{IfOk-weaker}
use Rattle.std.specs.Prelude.{None}
use Rattle.dump_inputs.specs.Blocks.{IsMeantBy, IsPath}
use Rattle.dump_inputs.proofs.Meant.{IsPartBy-at, IsPartBy-none}
use Rattle.dump_inputs.proofs.show.Show.push_part_meant.Goals as goal

pub returns-in-Ok : goal.returns-in-Ok
returns-in-Ok g c =
    let offset = c.in-Ok.offset in
    let document = c.args.document.now.octets.items in
    let meant : IsMeantBy c.args.target offset = rw c.in-Ok.is at c.in_ok-offset.ensures.found in
    IfOk-weaker c.push_part_at.result _ _
    (λ outcome (octets, part, written).
    (octets, IsPartBy-at c.args.target offset c.args.part document octets meant part, written)) c.push_part_at.ensures

pub returns-in-Err : goal.returns-in-Err
returns-in-Err g c =
    let none : IsPath c.args.target = rw c.in-Err.is at c.in_ok-offset.ensures.none in (
      None,
      IsPartBy-none c.args.target c.args.part c.args.document.now.octets.items none,
      ([], Appends-nil (g.W.Write.contents c.args.out.now), refl),
    )
