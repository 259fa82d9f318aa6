-- For `put_encodings::put_encoding`: what it returns is right.
use Rattle.std.proofs.Common.{◌≡◌, refl, sym, subst, ◌∙◌, arith}
use Rattle.asn1_numbers.specs.Decimal.{natural_numeral}
use Rattle.asn1_records.specs.Raw.{is_no_numeral, was_encoded}
use Rattle.asn1_records.specs.Room.{ArePut}
use Rattle.asn1_records.proofs.TextOctets.{IsUtf8-numeral}
use Rattle.asn1_records.proofs.put_encodings.put_encoding.Goals as goal

pub returns-in_default-from_utf8 : goal.returns-in_default-from_utf8
returns-in_default-from_utf8 c =
    let put = c.nothing_put-in_default-from_utf8.ensures in
    is_no_numeral (λ tag e. c.in_default-from_utf8.ensures.cases.0 (IsUtf8-numeral c.args.numeral.now tag e))
    (put.status, put.offset, put.count, refl)

pub returns-in-Ok-encoding_of : goal.returns-in-Ok-encoding_of
returns-in-Ok-encoding_of c =
    let tag = c.in-Ok-Some.tag in
    let here : c.in-Ok.numeral.now ≡ natural_numeral tag = rw c.in-Ok-Some.field-0-is at c.in-Ok-Some.ensures.number in
    was_encoded c.in-Some.class c.in-Some.ensures.found
    (omega (arith, c.if-numeral-gt-MOST_DIGITS.false)) tag (sym c.in-Ok.ensures.cases.0 ∙ here)
    (subst (λ z. ArePut z c.args.room.now c.put_front.new.room c.put_front.result)
    (c.deref.ensures.value ∙ c.in-Ok-encoding_of.ensures)
    c.put_front.ensures)
