-- For `headers::Headers::from_der`: what it returns is right (`accepts`, `refuses`) and its result keeps the invariant
-- of its type.
use Rattle.std.proofs.Common.{◌<◌, ◌^◌, length, inl, inr, ◌∙◌, ap, arith}
use Rattle.std.proofs.lemmas.Grind.{merely}
use Rattle.asn1_outline.specs.Shapes.{entries_of}
use Rattle.asn1_outline.proofs.ShapesAlone.{FirstHeaderFaultAt-unique, HasShapes-unique, HasShapes-no_fault}
use Rattle.asn1_outline.proofs.headers.Headers.from_der.Goals as goal

pub returns-in-Ok-clause-accepts : goal.returns-in-Ok-clause-accepts
returns-in-Ok-clause-accepts c all h =
    let small : length c.args.octets.now < 2 ^ 64 = omega arith in
    let (found, has, is) = c.in-Ok.ensures.walked in
    is ∙ ap (entries_of 0 0) (HasShapes-unique c.args.octets.now small found all has h)

pub returns-in-Ok-clause-refuses : goal.returns-in-Ok-clause-refuses
returns-in-Ok-clause-refuses c fault o p =
    let small : length c.args.octets.now < 2 ^ 64 = omega arith in
    let (found, has, is) = c.in-Ok.ensures.walked in
    HasShapes-no_fault c.args.octets.now small found fault o has p

pub returns-in-Err-clause-accepts : goal.returns-in-Err-clause-accepts
returns-in-Err-clause-accepts c all h =
    let small : length c.args.octets.now < 2 ^ 64 = omega arith in
    elim c.in-Err.ensures.refused
    [ inl memory ↦ memory | inr f ↦ absurd (HasShapes-no_fault c.args.octets.now small all _ _ h f) ]

pub returns-in-Err-clause-refuses : goal.returns-in-Err-clause-refuses
returns-in-Err-clause-refuses c fault o p =
    let small : length c.args.octets.now < 2 ^ 64 = omega arith in
    elim c.in-Err.ensures.refused [
      | inl memory ↦ inl memory
      | inr f ↦ inr (FirstHeaderFaultAt-unique c.args.octets.now small _ fault _ o f p)
    ]

pub invariant_of-result : goal.invariant_of-result
invariant_of-result c = record { walked = merely c.in-Ok.ensures.walked }
