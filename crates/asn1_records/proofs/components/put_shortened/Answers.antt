-- For `components::put_shortened`: what it returns is right.
use Rattle.std.proofs.Common.{inl, inr, refl, ap, subst, ◌∙◌}
use Rattle.asn1_headers.specs.Fault.{fault_of}
use Rattle.asn1_records.specs.Contents.{had_no_memory_for_components, mean_components, mean_no_components}
use Rattle.asn1_records.specs.Room.{ArePut}
use Rattle.asn1_records.specs.Status.{status_of}
use Rattle.asn1_records.proofs.components.put_shortened.Goals as goal

pub returns-in-Err : goal.returns-in-Err
returns-in-Err c =
    let put = c.nothing_put.ensures in
    let outcome = put.status ∙ c.status_of_fault.ensures in
    elim c.in-Err.ensures.refused [
      | inl memory ↦ had_no_memory_for_components
          (outcome ∙ ap (λ z. status_of (fault_of z)) memory, put.offset, put.count, refl)
      | inr fault ↦ mean_no_components (fault_of c.in-Err.e) fault (outcome, put.offset, put.count, refl)
    ]

pub returns-in-Ok-as_raw : goal.returns-in-Ok-as_raw
returns-in-Ok-as_raw c =
    mean_components c.in-Ok.oid c.in-Ok.ensures.found
    (subst (λ z. ArePut z c.args.room.now c.put_front.new.room c.put_front.result)
    (c.deref.ensures.value ∙ c.in-Ok-as_raw.ensures.contents) c.put_front.ensures)
