-- For `show::Show::push_text_of`: what it returns is right.
use Rattle.std.proofs.Common.{inl, inr, refl, string_bytes}
use Rattle.std.proofs.lemmas.Result.{IfOk-weaker}
use Rattle.std.specs.Prelude.{Some}
use Rattle.dump_inputs.proofs.show.Show.push_text_of.Goals as goal

pub returns-in_ok-line-in-Ok-Some : goal.returns-in_ok-line-in-Ok-Some
returns-in_ok-line-in-Ok-Some g c =
    let line = string_bytes c.in_ok-line-in-Ok-Some.line in
    IfOk-weaker c.push_octets.result _ _
    (λ outcome written. (Some line, inr c.in_ok-line-in-Ok-Some.ensures, rw c.as_bytes.ensures.value at written))
    c.push_octets.ensures

pub returns-in-Ok-None : goal.returns-in-Ok-None
returns-in-Ok-None g c =
    let contents = c.args.block.now.contents.now in
    IfOk-weaker c.push_octets-in-Ok-None.result _ _ (λ outcome written. (Some contents, inl refl, written))
    c.push_octets-in-Ok-None.ensures
