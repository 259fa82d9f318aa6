-- For `identifier::put_identifier`: what it returns is right.
use Rattle.std.proofs.Common.{◌≡◌, Some, None, inl, inr, refl, sym, subst, ◌∙◌, arith}
use Rattle.asn1_leaves.specs.Contents.ObjectIdentifier.{object_identifier_contents}
use Rattle.simple_asn1.specs.DottedDecimal.{IsDottedDecimal}
use Rattle.asn1_records.specs.Puts.{had_no_memory_for_identifier, has_components, has_no_components}
use Rattle.asn1_records.specs.Room.{ArePut}
use Rattle.asn1_records.proofs.TextOctets.{IsUtf8-dotted_decimal}
use Rattle.asn1_records.proofs.identifier.put_identifier.Goals as goal

pub returns-in_default : goal.returns-in_default
returns-in_default c =
    let put = c.nothing_put-in_default.ensures in
    has_no_components (λ ns dotted. c.in_default.ensures.cases.0 (IsUtf8-dotted_decimal c.args.text.now ns dotted))
    (put.status, put.offset, put.count, refl)

pub returns-in-Ok-as_raw : goal.returns-in-Ok-as_raw
returns-in-Ok-as_raw c =
    let ns = c.in-Ok-Some.oid in
    let here : IsDottedDecimal c.in-Ok.text.now ns = rw c.in-Ok-Some.field-0-is at c.in-Ok-Some.ensures.identifier in
    let dotted : IsDottedDecimal c.args.text.now ns = subst (λ z. IsDottedDecimal z ns) c.in-Ok.ensures.cases.0 here in
    let octets : c.deref.result.now ≡ object_identifier_contents ns =
    c.deref.ensures.value ∙ c.in-Ok-as_raw.ensures.contents in
    has_components (omega (arith, c.if-text-gt-MOST_DOTTED.false)) ns dotted
    (inl (
      c.in-Ok-as_raw.ensures.writable,
      subst (λ z. ArePut z c.args.room.now c.put_front.new.room c.put_front.result) octets c.put_front.ensures,
    ))

pub returns : goal.returns
returns c =
    let ns = c.in-Ok-Some.oid in
    let here : IsDottedDecimal c.in-Ok.text.now ns = rw c.in-Ok-Some.field-0-is at c.in-Ok-Some.ensures.identifier in
    let dotted : IsDottedDecimal c.args.text.now ns = subst (λ z. IsDottedDecimal z ns) c.in-Ok.ensures.cases.0 here in
    let put = c.nothing_put-in-Err-as_raw.ensures in
    elim c.status_of_unwritten.ensures [
      | inl (memory, outcome) ↦ had_no_memory_for_identifier (put.status ∙ outcome, put.offset, put.count, refl)
      | inr (other, outcome) ↦ elim c.in-Err-as_raw.ensures.refused [
        | inl memory ↦ absurd (other memory)
        | inr fault ↦
            has_components (omega (arith, c.if-text-gt-MOST_DOTTED.false)) ns dotted
            (inr (
              (λ none. let e : None ≡ Some c.in-Err-as_raw.e = sym none ∙ fault in cc),
              (put.status ∙ outcome, put.offset, put.count, refl),
            ))
      ]
    ]
