-- For `contents::generalized_time::longer_form`: `unreachable` may be called and what cannot happen does not.
use Rattle.std.proofs.Common.{arith}
use Rattle.std.proofs.lemmas.Grind.{common_steps}
use Rattle.asn1_leaves.proofs.Leaves.GeneralizedTime.{IsUtf8-longer_form}
use Rattle.asn1_leaves.proofs.contents.generalized_time.longer_form.Goals as goal

pub unreachable-requires : goal.unreachable-requires
unreachable-requires c =
    let u = IsUtf8-longer_form c.args.text.now c.requires.ascii in
    grind (arith, common_steps, u)
