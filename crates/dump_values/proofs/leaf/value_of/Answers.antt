-- For `leaf::value_of`: what it returns is right (`refused`).
use Rattle.std.proofs.Common.{◌≡◌, arith, inl, inr, subst}
use Rattle.std.proofs.lemmas.Grind.{common_steps}
use Rattle.std.proofs.lemmas.Result.{IfErr-weaker}
use Rattle.asn1_headers.specs.Fault.{fault_of}
use Rattle.asn1_blocks.specs.Contents.{LeafFault}
use Rattle.dump_values.proofs.leaf.value_of.Goals as goal

pub returns-in-Some-clause-refused : goal.returns-in-Some-clause-refused
returns-in-Some-clause-refused c =
    let t : c.in-Some.tag ≡ c.args.header.now.tag = grind (arith, common_steps) in
    IfErr-weaker c.universal_value.result _ _
    (λ e found. elim found [
      | inl memory ↦ inl memory
      | inr fault ↦ inr (c.in-Universal.is, subst (λ z. LeafFault z c.args.contents.now (fault_of e)) t fault)
    ]) c.universal_value.ensures.refused
