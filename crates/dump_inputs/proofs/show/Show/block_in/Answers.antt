-- For `show::Show::block_in`: what it returns is right.
use Rattle.std.proofs.Common.{subst}
use Rattle.std.specs.Prelude.{Err, Ok}
use Rattle.dump_walk.specs.ByOffset.{Finds, HasElementAt, LacksElementAt}
use Rattle.dump_inputs.proofs.show.Show.block_in.Goals as goal

pub returns-in-Ok : goal.returns-in-Ok
returns-in-Ok c =
    let block = c.in-Ok.block in
    let found : Finds c.deref.result.now c.args.offset (Ok block) = rw c.in-Ok.is at c.in_ok-block.ensures in
    subst (λ z. HasElementAt z c.args.offset block.octets.now block.contents.now) c.deref.ensures.value found

pub returns-in_ok-no_block_text-in-Err : goal.returns-in_ok-no_block_text-in-Err
returns-in_ok-no_block_text-in-Err c =
    let why = c.in-Err.why in
    let found : Finds c.deref.result.now c.args.offset (Err why) = rw c.in-Err.is at c.in_ok-block.ensures in
    (why, subst (λ z. LacksElementAt z c.args.offset why) c.deref.ensures.value found)
