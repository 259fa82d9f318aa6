-- For `raw::put_raw_identifier`: what it returns is right.
use Rattle.std.proofs.Common.{◌≡◌, Some, inl, inr, refl, ap, subst, ◌∙◌}
use Rattle.asn1_leaves.specs.Contents.ObjectIdentifier.{object_identifier_write_fault}
use Rattle.asn1_records.specs.Raw.{component_place, component_status, components_have_fault, had_no_memory_for_raw_identifier}
use Rattle.asn1_records.proofs.raw.put_raw_identifier.Goals as goal

pub returns : goal.returns
returns c =
    let e = c.in-Err.e in
    let outcome = c.unwritten.ensures in
    elim c.in-Err.ensures.refused [
      | inl memory ↦
          had_no_memory_for_raw_identifier
          (outcome.status ∙ ap component_status memory, outcome.place ∙ ap component_place memory, outcome.count, refl)
      | inr fault ↦
          components_have_fault e (subst (λ z. object_identifier_write_fault z ≡ Some e) c.in-Ok.ensures fault)
          outcome.status outcome.place outcome.count refl
    ]
