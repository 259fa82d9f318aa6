-- For `leaf::read_contents`: what it returns is right.
use Rattle.std.proofs.Common.{inl, inr}
use Rattle.dump_values.proofs.leaf.read_contents.Goals as goal

pub returns : goal.returns
returns c =
    let fault = c.in_ok-fault.ensures in
    elim c.in-Err.ensures.refused [
      | inl memory ↦ absurd (fault.other memory)
      | inr wrong ↦ (wrong.0, (_, wrong.1, fault.found))
    ]
