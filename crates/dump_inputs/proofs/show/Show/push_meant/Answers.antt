-- For `show::Show::push_meant`: what it returns is right.
use Rattle.std.proofs.lemmas.Result.{IfOk-weaker}
use Rattle.dump_inputs.specs.Blocks.{IsMeantBy, IsPath}
use Rattle.dump_inputs.proofs.Meant.{IsShownBy-at, IsShownBy-none}
use Rattle.dump_inputs.proofs.show.Show.push_meant.Goals as goal

pub returns-in-Ok : goal.returns-in-Ok
returns-in-Ok g c =
    let document = c.args.document.now.octets.items in
    let meant : IsMeantBy c.args.target c.in-Ok.offset = rw c.in-Ok.is at c.in_ok-offset.ensures.found in
    IfOk-weaker c.push_block.result _ _
    (λ outcome. IsShownBy-at c.args.target c.in-Ok.offset document outcome meant) c.push_block.ensures

pub returns-in-Err : goal.returns-in-Err
returns-in-Err g c =
    let document = c.args.document.now.octets.items in
    let none : IsPath c.args.target = rw c.in-Err.is at c.in_ok-offset.ensures.none in
    IfOk-weaker c.push_lack.result _ _ (λ outcome. IsShownBy-none c.args.target document outcome none)
    c.push_lack.ensures
