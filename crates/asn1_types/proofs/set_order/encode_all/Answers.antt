-- For `set_order::encode_all`: its loop keeps its invariant, and what it returns is right (`refused`).
use Rattle.std.proofs.Common.{◌∙◌, [], ◌∷◌, ◌++◌, ap, append_assoc, inl, inr, map, sym}
use Rattle.std.proofs.lemmas.List.{map-append}
use Rattle.std.proofs.lemmas.Result.{err_from_is_err_and}
use Rattle.asn1_types.specs.Inner.Encodings.{value_of}
use Rattle.asn1_types.proofs.Encodings.{first_fault, no_fault-push}
use Rattle.asn1_types.proofs.set_order.encode_all.Goals as goal

pub returns-in_err-encode-clause-refused : goal.returns-in_err-encode-clause-refused
returns-in_err-encode-clause-refused g c =
    let steps = rw c.in-Some.is at c.next.ensures.steps in
    let all = ap (λ z. c.loop-value.yielded ++ z) (sym steps.0) ∙ c.loop-value.invariant.all in
    let p = err_from_is_err_and c.from_residual-in_err-encode.result c.from_residual-in_err-encode.ensures.1 in
    rw (p.1, p.2) (elim c.in_err-encode.ensures.refused [
      | inl memory ↦ inl memory
      | inr fault ↦
          inr (rw (← all) (first_fault g.T.Asn1Type.tree c.loop-value.yielded _ c.in-Some.value _
          c.loop-value.invariant.writable fault))
    ])

pub loop-value-preserved : goal.loop-value-preserved
loop-value-preserved g c =
    let steps = rw c.in-Some.is at c.next.ensures.steps in
    record {
      values =
          ap (λ xs. map value_of xs) c.in_ok-push.ensures.items
          ∙ (map-append value_of c.loop-value.items.items (c.in_ok-encode.field-0 ∷ [])
          ∙ (ap (λ xs. xs ++ value_of c.in_ok-encode.field-0 ∷ []) c.loop-value.invariant.values
          ∙ ap (λ x. c.loop-value.yielded ++ x ∷ []) c.in_ok-encode.ensures.value));
      all =
          append_assoc c.loop-value.yielded (c.in-Some.value ∷ []) c.next.new.self.rest.items
          ∙ (ap (λ z. c.loop-value.yielded ++ z) (sym steps.0) ∙ c.loop-value.invariant.all);
      writable =
          no_fault-push g.T.Asn1Type.tree c.loop-value.yielded c.in-Some.value c.loop-value.invariant.writable
          c.in_ok-encode.ensures.writable;
    }
