-- For `components::put_components`: what it returns is right.
use Rattle.std.proofs.Common.{◌≡◌, inl, inr, refl, sym, ap, subst, ◌∙◌}
use Rattle.asn1_headers.specs.declared.error.ASN1DecodeErr.TheVariants.{OutOfMemory, Overflow}
use Rattle.asn1_headers.specs.Fault.{fault_of}
use Rattle.asn1_records.specs.Contents.{had_no_memory_for_components, mean_components, mean_no_components}
use Rattle.asn1_records.specs.Room.{ArePut}
use Rattle.asn1_records.specs.Status.{status_of}
use Rattle.asn1_records.proofs.FittingComponents.{All-fits, HasNotAll-not_all, AreNumbers-same}
use Rattle.asn1_records.proofs.components.put_components.Goals as goal

pub returns-in-Err : goal.returns-in-Err
returns-in-Err c =
    let put = c.nothing_put.ensures in
    let outcome = put.status ∙ c.status_of_fault.ensures in
    elim c.in-Err.ensures.refused [
      | inl memory ↦ had_no_memory_for_components
          (outcome ∙ ap (λ z. status_of (fault_of z)) memory, put.offset, put.count, refl)
      | inr fault ↦ mean_no_components (fault_of c.in-Err.e) fault (outcome, put.offset, put.count, refl)
    ]

pub returns-in-Ok-as_vec : goal.returns-in-Ok-as_vec
returns-in-Ok-as_vec c =
    let ns = c.in-Ok.oid in
    let v = c.in-Ok-as_vec.numbers.items in
    let all = c.in-Ok-as_vec.ensures.all in
    let same : c.deref.result.now ≡ ns = c.deref.ensures.value ∙ AreNumbers-same v ns all in
    mean_components ns c.in-Ok.ensures.found
    (inl (
      All-fits v ns all,
      subst (λ z. ArePut z c.args.room.now c.put_front.new.room c.put_front.result) same c.put_front.ensures,
    ))

pub returns-in-Err-Overflow : goal.returns-in-Err-Overflow
returns-in-Err-Overflow c =
    let ns = c.in-Ok.oid in
    let put = c.nothing_put-in-Err-Overflow.ensures in
    elim c.in-Err-Overflow.ensures.refused [
      | inl memory ↦ let e : Overflow ≡ OutOfMemory = sym c.in-Err-Overflow.field-0-is ∙ memory in cc
      | inr (e, large) ↦ mean_components ns c.in-Ok.ensures.found
          (inr (HasNotAll-not_all ns large, (put.status, put.offset, put.count, refl)))
    ]
